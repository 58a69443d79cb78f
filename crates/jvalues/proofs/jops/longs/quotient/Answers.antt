use Rattle.std.proofs.Common.{lit<}
use Rattle.std.specs.Int.{w64}
use Rattle.jvalues.proofs.JopsProofs.Wraps.{quotient_is}
use Rattle.jvalues.proofs.jops.longs.quotient.Goals as goal

pub returns : goal.returns
returns c = quotient_is w64 c.args.x c.args.y c.wrapping_div.result (lit< tt) c.ranges.x c.ranges.y c.wrapping_div.ensures
