use Rattle.jruntime.specs.jstate.HeapMeanings.{store_by}
use Rattle.jstepping.proofs.JrefsProofs.Stores.{store_is}
use Rattle.jstepping.proofs.jrefs.serving.serves_by.Goals as goal

pub returns : goal.returns
returns g c f owned holds others constants at own_of seen world class own =
    c.put_field_serves.ensures at own_of (store_by c.args.x.now.ancestors.now c.args.x.now.shapes.now others constants c.args.heap.now) f
    (record { things = seen.things; constants = constants; counted = seen.counted; seen = store_is c.args.x.now c.args.counts c.args.heap.now others constants seen }) world class own owned holds
