use Rattle.std.proofs.Common.{arith}
use Rattle.jmove.proofs.MovedDescriptors.{types_more}
use Rattle.jmove.proofs.descriptor.types_length.Goals as goal

pub type_length-count-requires : goal.type_length-count-requires
type_length-count-requires c = let more = types_more c.args.types.now c.loop-one.one-index c.loop-one.count _ c.one-item.result c.loop-one-test.true c.one-item.is c.loop-one.invariant in omega (arith, more, c.requires)
