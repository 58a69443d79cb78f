use Rattle.std.proofs.Common.{◌≡◌, take, length}
use Rattle.jresolution.specs.jprogram.MemberDigests.{AreTold}
use Rattle.jresolution.proofs.jprogram.firsts.firsts_in.Given as goal

abbrev pub invariant-loop-i : goal.invariant-loop-i
invariant-loop-i l = AreTold (take l.i l.parts) l.all.items × (length l.all.items ≡ l.i)
