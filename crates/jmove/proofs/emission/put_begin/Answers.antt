use Rattle.std.proofs.Common.{arith}
use Rattle.jmove.specs.PlaceTables.{in_table}
use Rattle.jmove.proofs.EmittedLines.{still_near, next_reach, next_put}
use Rattle.jmove.proofs.emission.put_begin.Goals as goal

pub between-requires : goal.between-requires
between-requires c = omega (arith, still_near c.args.begin.now c.loop-op.op-index c.loop-op.at _ c.op-item.result c.loop-op-test.true c.op-item.is c.loop-op.invariant.same_end)

pub size_at-at-requires : goal.size_at-at-requires
size_at-at-requires c = omega (arith, still_near c.args.begin.now c.loop-op.op-index c.loop-op.at _ c.op-item.result c.loop-op-test.true c.op-item.is c.loop-op.invariant.same_end)

pub overflow_add-at : goal.overflow_add-at
overflow_add-at c = omega (arith, still_near c.args.begin.now c.loop-op.op-index c.loop-op.at _ c.op-item.result c.loop-op-test.true c.op-item.is c.loop-op.invariant.same_end)

pub loop-op-preserved : goal.loop-op-preserved
loop-op-preserved c = record {
  same_end = rw c.size_at-at.ensures
      (next_reach c.args.begin.now c.loop-op.op-index c.loop-op.at _ c.op-item.result c.loop-op-test.true c.op-item.is c.loop-op.invariant.same_end);
  so_far = rw (c.in_ok-put_led.ensures, c.between.ensures, c.size_at-at.ensures)
      (next_put (in_table c.args.places.now) 0 c.args.begin.now c.loop-op.op-index c.loop-op.at c.loop-op.out.items _ c.op-item.result
      c.loop-op-test.true c.op-item.is c.loop-op.invariant.so_far);
}
