use Rattle.std.proofs.Common.{take}
use Rattle.jlinking.specs.jmembers.PoolTexts.{AreFirst}
use Rattle.jlinking.proofs.jmembers.numbers.first_places.Given as goal

abbrev pub invariant-loop-i : goal.invariant-loop-i
invariant-loop-i l = AreFirst (take l.i l.entries) l.places
