use Rattle.std.proofs.Common.{take}
use Rattle.jresolution.specs.jprogram.NameTable.{ArePlaces}
use Rattle.jresolution.proofs.jprogram.names.places_of.Given as goal

abbrev pub invariant-loop-i : goal.invariant-loop-i
invariant-loop-i l = ArePlaces (take l.i l.parts) l.places
