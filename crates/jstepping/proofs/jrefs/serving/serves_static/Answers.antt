use Rattle.jruntime.specs.jstate.HeapMeanings.{store_by}
use Rattle.jstepping.proofs.JrefsProofs.Stores.{store_is}
use Rattle.jstepping.proofs.jrefs.serving.serves_static.Goals as goal

pub returns : goal.returns
returns g c f holds others constants at own seen site =
    c.put_static_serves.ensures at own (store_by c.args.x.now.ancestors.now c.args.x.now.shapes.now others constants c.args.heap.now) f
    (record { things = seen.things; constants = constants; counted = seen.counted; seen = store_is c.args.x.now c.args.counts c.args.heap.now others constants seen }) site.world holds
