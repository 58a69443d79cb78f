use Rattle.jresolution.proofs.JlayoutProofs.Walks.{path_smaller}
use Rattle.jserving.proofs.JcellsProofs.ObjectCells.{path_on}
use Rattle.jserving.proofs.jcells.paths.path_from.Goals as goal

pub loop-next-preserved : goal.loop-next-preserved
loop-next-preserved c =
    path_on c.args.p.now c.requires.order c.args.class c.in-Some.at c.loop-next.next c.above_in-next.result c.loop-next.path.items c.push.new.self.items
    c.in-Some.is c.above_in-next.ensures c.in_ok-push.ensures.items c.loop-next.invariant

pub loop-next-smaller : goal.loop-next-smaller
loop-next-smaller c = path_smaller c.args.p.now c.requires.order c.in-Some.at c.loop-next.next c.above_in-next.result c.in-Some.is c.above_in-next.ensures
