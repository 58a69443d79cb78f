use Rattle.std.specs.Int.{w64}
use Rattle.jvalues.proofs.JopsProofs.Wraps.{negative_is}
use Rattle.jvalues.proofs.jops.longs.negative.Goals as goal

pub returns : goal.returns
returns c = negative_is w64 c.args.x c.wrapping_neg.result c.ranges.x c.wrapping_neg.ensures
