use Rattle.std.proofs.Common.{◌≤◌}
use Rattle.jresolution.proofs.JprogramProofs.InterfaceNumbers.{Facing}
use Rattle.jresolution.proofs.jprogram.faces.faces_of.Given as goal

abbrev pub invariant-loop-part : goal.invariant-loop-part
invariant-loop-part l = (l.next ≤ l.part-index) × Facing l.parts l.part-index l.next l.numbers
