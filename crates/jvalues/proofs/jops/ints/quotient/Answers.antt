use Rattle.std.proofs.Common.{lit<}
use Rattle.std.specs.Int.{w32}
use Rattle.jvalues.proofs.JopsProofs.Wraps.{quotient_is}
use Rattle.jvalues.proofs.jops.ints.quotient.Goals as goal

pub returns : goal.returns
returns c = quotient_is w32 c.args.x c.args.y c.wrapping_div.result (lit< tt) c.ranges.x c.ranges.y c.wrapping_div.ensures
