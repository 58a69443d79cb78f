use Rattle.std.proofs.Common.{take}
use Rattle.jresolution.specs.juses.PoolTables.{ArePartsKept}
use Rattle.jresolution.proofs.juses.uses.Uses.of.Given as goal

abbrev pub invariant-loop-part : goal.invariant-loop-part
invariant-loop-part l = ArePartsKept l.p l.types (take l.part-index l.p.parts) l.parts
