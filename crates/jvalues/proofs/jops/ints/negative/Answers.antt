use Rattle.std.specs.Int.{w32}
use Rattle.jvalues.proofs.JopsProofs.Wraps.{negative_is}
use Rattle.jvalues.proofs.jops.ints.negative.Goals as goal

pub returns : goal.returns
returns c = negative_is w32 c.args.x c.wrapping_neg.result c.ranges.x c.wrapping_neg.ensures
