use Rattle.std.proofs.Common.{take}
use Rattle.std.specs.List.{flat_map}
use Rattle.jready.specs.Statics.{AreStatics, own_statics}
use Rattle.jready.proofs.statics.statics_of.Given as goal

abbrev pub invariant-loop-i : goal.invariant-loop-i
invariant-loop-i l = AreStatics l.p (flat_map own_statics (take l.i l.p.parts)) l.rows
