use Rattle.jmove.proofs.PoolGrowth.{put_is}
use Rattle.jmove.proofs.ReferenceAdditions.{full_adds, memory_adds}
use Rattle.jmove.proofs.adding.put.Goals as goal

pub returns-in-Ok-clause-value : goal.returns-in-Ok-clause-value
returns-in-Ok-clause-value c = put_is c.args.e c.args.pool.now _ c.in-Ok.i c.in-Ok.ensures.value

pub returns-in-Err-PoolFull-clause-value : goal.returns-in-Err-PoolFull-clause-value
returns-in-Err-PoolFull-clause-value c = full_adds c.args.e c.args.pool.now c.add.new.self (rw c.in-Err-PoolFull.field-0-is at c.in-Err-PoolFull.ensures.value) c.in-Err-PoolFull.ensures.err

pub returns-in-Err-Memory-clause-value : goal.returns-in-Err-Memory-clause-value
returns-in-Err-Memory-clause-value c = memory_adds c.args.e c.args.pool.now c.add.new.self c.in-Err-Memory.ensures.err
