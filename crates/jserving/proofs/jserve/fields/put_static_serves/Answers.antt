use Rattle.jserving.proofs.JserveProofs.FieldOperands.{put_static_served}
use Rattle.jserving.proofs.jserve.fields.put_static_serves.Goals as goal

pub returns : goal.returns
returns g c at own s f store here holds =
    put_static_served c.heap_laws.ensures.each c.args.a.now c.args.x.now s store c.args.frames.now.newest.operands at own f c.args.held
    c.serves_at.result here holds c.serves_at.ensures
