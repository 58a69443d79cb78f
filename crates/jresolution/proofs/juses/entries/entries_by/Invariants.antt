use Rattle.std.proofs.Common.{take}
use Rattle.jresolution.specs.juses.EntryTextCache.{AreKnown}
use Rattle.jresolution.specs.juses.PoolTables.{AreKept}
use Rattle.jresolution.proofs.juses.entries.entries_by.Given as goal

abbrev pub invariant-loop-entry : goal.invariant-loop-entry
invariant-loop-entry l = AreKept l.p l.pool l.types (take l.entry-index l.pool) l.all × AreKnown l.p l.pool l.types l.classes l.references
