use Rattle.jmove.proofs.MethodLimits.{near_at}
use Rattle.jmove.proofs.moving.moved_length.Goals as goal

pub end_of-requires-clause-fits : goal.end_of-requires-clause-fits
end_of-requires-clause-fits c = near_at c.args.m.now c.args.kinds.now c.args.local c.begin_of-begin.result c.as_slice.result.now c.requires.local (rw c.from.ensures at (c.begin_of-begin.ensures 0 0)) c.as_slice.ensures c.requires.can
