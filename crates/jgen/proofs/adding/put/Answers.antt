use Rattle.jgen.proofs.PoolAdditions.{entry_put, not_full}
use Rattle.jgen.proofs.adding.put.Goals as goal

pub unreachable-requires : goal.unreachable-requires
unreachable-requires c = not_full c.args.e c.args.pool.now c.requires.narrow c.requires.room (rw c.in-Err-PoolFull.field-0-is at c.in-Err-PoolFull.ensures.value)

pub returns-in-Ok-clause-value : goal.returns-in-Ok-clause-value
returns-in-Ok-clause-value c = entry_put c.args.e c.args.pool.now c.add.new.self c.in-Ok.i c.requires.narrow c.in-Ok.ensures.value c.in-Ok.ensures.least.there
