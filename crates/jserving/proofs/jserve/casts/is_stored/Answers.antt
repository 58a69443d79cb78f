use Rattle.jserving.proofs.JserveProofs.ReferenceTypes.{stored_served}
use Rattle.jserving.proofs.jserve.casts.is_stored.Goals as goal

pub returns : goal.returns
returns c s store =
    stored_served c.heap_laws.ensures.each c.args.a.now c.args.x.now s store c.args.value c.args.array c.component.result c.value_is.result
    (c.component.ensures c.args.a.now) c.value_is.ensures
