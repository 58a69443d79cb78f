use Rattle.std.proofs.Common.{[], false, refl}
use Rattle.jsemantics.specs.jmachine.World.{world}
use Rattle.jruntime.specs.jstate.HeapMeanings.{store_by}
use Rattle.jstepping.proofs.jstep.throwing.serves.Goals as goal

pub returns : goal.returns
returns g c things constants counted =
    let p = c.args.fixed.now.ancestors.now in
    c.thrown_serves.ensures (record { world = world p; class = 0; thread = 0; full = false; cwd = []; table = [] })
    (store_by p c.args.fixed.now.shapes.now things constants c.args.heap.now)
    (record { things = things; constants = constants; counted = counted; seen = refl }) refl
