use Rattle.std.proofs.Common.{lit<}
use Rattle.std.specs.Int.{w64}
use Rattle.jvalues.proofs.JopsProofs.Wraps.{shifted_is}
use Rattle.jvalues.proofs.jops.longs.shifted_left.Goals as goal

pub returns : goal.returns
returns c = shifted_is w64 c.args.x c.args.by (lit< tt) c.ranges.x c.requires
