use Rattle.jserving.proofs.JfitsProofs.SuperclassWalks.{above_some}
use Rattle.jserving.proofs.jfits.ancestors.Ancestors.above.Goals as goal

pub returns-in-Some-above : goal.returns-in-Some-above
returns-in-Some-above c = above_some c.args.self.now c.order_law.ensures c.args.c c.in-Lib.c c.in-Some-above.above c.above.result c.in-Lib.is c.above.ensures c.in-Some-above.is
