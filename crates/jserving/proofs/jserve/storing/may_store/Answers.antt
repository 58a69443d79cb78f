use Rattle.jsemantics.specs.jmachine.World.{world}
use Rattle.jserving.proofs.JserveProofs.ArrayStores.{may_none, may_some}
use Rattle.jserving.proofs.jserve.storing.may_store.Goals as goal

pub returns-in-None : goal.returns-in-None
returns-in-None g c s store =
    may_none (world c.args.a.now) c.args.a.now c.args.x.now.shapes.now s c.args.x.now.heap.now c.args.frames.now.newest.operands
    c.in-None.ensures.number

pub returns-in-Some : goal.returns-in-Some
returns-in-Some g c s store =
    let is = rw c.array_type.ensures at c.is_stored.ensures in
    may_some (world c.args.a.now) c.args.a.now c.args.x.now.shapes.now s c.args.x.now.heap.now c.args.frames.now.newest.operands
    c.in-Some.number c.operand.result c.is_stored.result c.in-Some.ensures.number c.operand.ensures (is s store)
