use Rattle.jmoveclass.proofs.MethodContents.{begun}
use Rattle.jmoveclass.proofs.whole.adder_of.Goals as goal

pub over-requires : goal.over-requires
over-requires c = rw c.in_ok-pool.ensures (begun c.args.c.now.class.now c.requires.good)
