use Rattle.jserving.proofs.JserveProofs.FieldOperands.{get_field_served}
use Rattle.jserving.proofs.jserve.fields.get_field_serves.Goals as goal

pub returns : goal.returns
returns g c at own s f store here owned =
    get_field_served c.heap_laws.ensures.each c.args.a.now c.args.x.now s store c.args.frames.now.newest.operands at own f c.args.owner
    c.serves_at.result here owned c.serves_at.ensures
