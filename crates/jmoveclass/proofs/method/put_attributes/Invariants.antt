use Rattle.std.proofs.Common.{◌≡◌, drop}
use Rattle.jmoveclass.specs.MovedMembers.{with_attribute}
use Rattle.jmoveclass.specs.PoolPuts.{with_each}
use Rattle.jmoveclass.proofs.ItemAdditions.{with_done}
use Rattle.jmoveclass.proofs.method.put_attributes.Given as goal

abbrev pub invariant-loop-one : goal.invariant-loop-one
invariant-loop-one l =
    with_done l.moved (with_each (with_attribute l.c.program.now l.c.class.now l.c.domain l.m) (drop l.one-index l.m.attributes) l.pool)
    ≡ with_each (with_attribute l.c.program.now l.c.class.now l.c.domain l.m) l.m.attributes l.fn.pool
