use Rattle.std.proofs.Common.{arith}
use Rattle.jsnapshots.proofs.Paths.{newest_last}
use Rattle.jsnapshots.proofs.path.Path.newest.Goals as goal

pub returns : goal.returns
returns c = newest_last c.args.self.now.under c.args.self.now.frames.items c.index.result.now c.len-n.result (omega arith) (omega arith) c.index.ensures
