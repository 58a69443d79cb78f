use Rattle.std.proofs.Common.{arith}
use Rattle.jmove.specs.declared.method.Expand.TheVariants.{Same}
use Rattle.jmove.specs.PlaceTables.{in_table}
use Rattle.jmove.proofs.LineSequences.{within, same_end, placed_more}
use Rattle.jmove.proofs.emission.put_expansions.Goals as goal

pub put_expansion-requires-clause-near : goal.put_expansion-requires-clause-near
put_expansion-requires-clause-near c =
    omega (arith, within c.args.s c.args.kinds.now c.args.ops.now c.loop-i.i c.loop-i.at _ Same c.index-ops-i.result c.loop-i-test.true c.requires.same c.index-ops-i.is c.loop-i.invariant.same_end)

pub reach-at-requires : goal.reach-at-requires
reach-at-requires c =
    omega (arith, within c.args.s c.args.kinds.now c.args.ops.now c.loop-i.i c.loop-i.at _ Same c.index-ops-i.result c.loop-i-test.true c.requires.same c.index-ops-i.is c.loop-i.invariant.same_end)

pub loop-i-preserved : goal.loop-i-preserved
loop-i-preserved c = record {
  same_end = rw c.reach-at.ensures
      (same_end c.args.s c.args.kinds.now c.args.ops.now c.loop-i.i c.loop-i.at _ Same c.index-ops-i.result
      c.loop-i-test.true c.requires.same c.index-ops-i.is c.loop-i.invariant.same_end);
  so_far = rw (c.in_ok-put_expansion.ensures, c.reach-at.ensures)
      (placed_more (in_table c.args.places.now) c.args.s c.args.kinds.now c.args.ops.now c.loop-i.out.items c.loop-i.i c.loop-i.at _ Same c.index-ops-i.result
      c.loop-i-test.true c.requires.same c.index-ops-i.is c.loop-i.invariant.so_far);
}
