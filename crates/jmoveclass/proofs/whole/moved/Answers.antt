use Rattle.jmoveclass.proofs.PoolOverflow.{is_moved, pool_full}
use Rattle.jmoveclass.proofs.whole.moved.Goals as goal

pub returns-in-Ok : goal.returns-in-Ok
returns-in-Ok c =
    let r = rw (c.in-Ok.is, c.in_ok-pool.ensures) at c.put_methods.ensures in
    is_moved c.args.c.now.program.now c.args.c.now.domain c.args.c.now.class.now c.in-Ok.methods c.put_methods.new.pool c.in_ok-class-in-Ok.class c.requires.limits r c.pool-entries.ensures.kept (rw c.into_pool.ensures at c.in_ok-class-in-Ok.ensures)

pub returns-in-Err-PoolFull : goal.returns-in-Err-PoolFull
returns-in-Err-PoolFull c =
    let r = rw (c.in-Err-PoolFull.is, c.in-Err-PoolFull.field-0-is, c.in_ok-pool.ensures) at c.put_methods.ensures in
    pool_full c.args.c.now.program.now c.args.c.now.domain c.args.c.now.class.now c.requires.limits r
