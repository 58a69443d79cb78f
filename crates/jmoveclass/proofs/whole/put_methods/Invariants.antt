use Rattle.std.proofs.Common.{◌≡◌, drop}
use Rattle.jmoveclass.specs.MovedMembers.{with_method}
use Rattle.jmoveclass.specs.PoolPuts.{with_each}
use Rattle.jmoveclass.proofs.ItemAdditions.{with_done}
use Rattle.jmoveclass.proofs.whole.put_methods.Given as goal

abbrev pub invariant-loop-m : goal.invariant-loop-m
invariant-loop-m l =
    with_done l.moved (with_each (with_method l.c.program.now l.c.class.now l.c.domain) (drop l.m-index l.c.class.now.methods) l.pool)
    ≡ with_each (with_method l.c.program.now l.c.class.now l.c.domain) l.c.class.now.methods l.fn.pool
