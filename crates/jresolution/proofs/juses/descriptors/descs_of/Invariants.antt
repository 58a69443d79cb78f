use Rattle.std.proofs.Common.{take}
use Rattle.jresolution.specs.juses.PoolTables.{AreDescs, Grows}
use Rattle.jresolution.proofs.juses.descriptors.descs_of.Given as goal

abbrev pub invariant-loop-entry : goal.invariant-loop-entry
invariant-loop-entry l = AreDescs l.p l.types (take l.entry-index l.entries) l.uses × Grows l.fn.types l.types
