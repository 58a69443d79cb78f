use Rattle.std.proofs.Common.{lit<}
use Rattle.std.specs.Int.{w32}
use Rattle.jvalues.proofs.JopsProofs.Wraps.{shifted_is}
use Rattle.jvalues.proofs.jops.ints.shifted_left.Goals as goal

pub returns : goal.returns
returns c = shifted_is w32 c.args.x c.args.by (lit< tt) c.ranges.x c.requires
