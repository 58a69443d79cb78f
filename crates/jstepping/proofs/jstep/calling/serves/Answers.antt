use Rattle.std.proofs.Common.{refl}
use Rattle.jruntime.specs.jstate.HeapMeanings.{store_by}
use Rattle.jstepping.proofs.jstep.calling.serves.Goals as goal

pub returns-clause-serve : goal.returns-clause-serve
returns-clause-serve g c things constants m counted call =
    c.call_serves.ensures.serve (store_by c.args.fixed.now.ancestors.now c.args.fixed.now.shapes.now things constants c.args.heap.now) m
    (record { things = things; constants = constants; counted = counted; seen = refl }) call
