use Rattle.jserving.proofs.JserveProofs.ReferenceTypes.{thrown_served}
use Rattle.jserving.proofs.jserve.casts.thrown_serves.Goals as goal

pub returns : goal.returns
returns g c at s store here = thrown_served c.heap_laws.ensures.each c.args.a.now c.args.x.now s store c.args.frames.now.newest.operands at
    c.serves_at.result here c.serves_at.ensures
