use Rattle.std.proofs.Common.{◌*◌, ◌≤◌, arith}
use Rattle.jparts.proofs.JpoolProofs.Params.{slots_item, slots_end}
use Rattle.jparts.proofs.jpool.descriptor.slots_of.Goals as goal

pub loop-one-preserved : goal.loop-one-preserved
loop-one-preserved c =
    let i = c.loop-one.invariant in
    let few : c.loop-one.count ≤ 2 * c.loop-one.one-index = i.1 in (
      slots_item c.args.types.now c.loop-one.one-index c.loop-one.count c.slots_in-count.result c.one-item.result c.loop-one-test.true c.one-item.is c.slots_in-count.ensures.number i.0,
      omega (arith, few, c.slots_in-count.ensures.few),
    )

pub returns : goal.returns
returns c = let i = c.loop-one.invariant in slots_end c.args.types.now c.loop-one.one-index c.loop-one.count (omega arith) i.0
