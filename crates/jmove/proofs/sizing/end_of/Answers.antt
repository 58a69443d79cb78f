use Rattle.std.proofs.Common.{arith}
use Rattle.jmove.specs.declared.method.Expand.TheVariants.{Same}
use Rattle.jmove.proofs.LineSequences.{within}
use Rattle.jmove.proofs.sizing.end_of.Goals as goal

pub reach-at-requires : goal.reach-at-requires
reach-at-requires c =
    omega (arith, within c.args.s c.args.kinds.now c.args.ops.now c.loop-i.i c.loop-i.at _ Same c.index-ops-i.result c.loop-i-test.true c.requires.same c.index-ops-i.is c.loop-i.invariant)
