use Rattle.std.proofs.Common.{take}
use Rattle.jresolution.specs.jprogram.MemberDigests.{AreFirst}
use Rattle.jresolution.proofs.jprogram.firsts.firsts_among.Given as goal

abbrev pub invariant-loop-k : goal.invariant-loop-k
invariant-loop-k l = AreFirst l.class (take l.k l.members) l.places
