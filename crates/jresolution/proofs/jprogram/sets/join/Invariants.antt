use Rattle.std.proofs.Common.{◌≤◌, length}
use Rattle.jresolution.proofs.JprogramProofs.BitLaws.{Joined}
use Rattle.jresolution.proofs.jprogram.sets.join.Given as goal

abbrev pub invariant-loop-i : goal.invariant-loop-i
invariant-loop-i l = (length l.other ≤ length l.words) × Joined l.other l.fn.words l.i l.words
