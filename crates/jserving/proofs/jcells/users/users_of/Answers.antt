use Rattle.std.proofs.Common.{subst}
use Rattle.jresolution.specs.jprogram.OrderedPrograms.{StandsInOrder}
use Rattle.jlinking.specs.jlink.ClassOrder.{in_order}
use Rattle.jserving.proofs.JcellsProofs.ObjectCells.{shapes_more}
use Rattle.jserving.proofs.jcells.users.users_of.Goals as goal

pub shape_of-requires-in-loop-class-clause-order :
    goal.shape_of-requires-in-loop-class-clause-order
shape_of-requires-in-loop-class-clause-order c =
    subst StandsInOrder c.program-2.ensures (in_order c.program-2.result.now c.parts-class-end.ensures.links)

pub loop-class-preserved : goal.loop-class-preserved
loop-class-preserved c =
    shapes_more c.args.ready.now.program c.loop-class.users c.push.new.self c.loop-class.class c.in_ok-shape_of.field-0 c.loop-class.invariant
    c.in_ok-shape_of.ensures c.in_ok-push.ensures.ok
