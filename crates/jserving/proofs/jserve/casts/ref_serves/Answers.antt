use Rattle.jserving.proofs.JserveProofs.ReferenceTypes.{cast_served}
use Rattle.jserving.proofs.jserve.casts.ref_serves.Goals as goal

pub returns : goal.returns
returns g c p at own s op t store here = cast_served c.heap_laws.ensures.each p c.args.x.now s store c.args.frames.now.newest.operands at own op t
    c.ref_at.result here (c.ref_at.ensures p)
