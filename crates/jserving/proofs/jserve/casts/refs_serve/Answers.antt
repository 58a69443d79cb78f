use Rattle.jserving.proofs.JserveProofs.ReferenceTypes.{is_null_served, non_null_served, other_served, same_served}
use Rattle.jserving.proofs.jserve.casts.refs_serve.Goals as goal

pub returns-in-Same : goal.returns-in-Same
returns-in-Same g c p s store =
    same_served c.heap_laws.ensures.each p c.args.x.now s store c.args.frames.now.newest.operands c.args.test
    c.both_refs.result c.in-Same.is (c.both_refs.ensures p)

pub returns-in-Other : goal.returns-in-Other
returns-in-Other g c p s store =
    other_served c.heap_laws.ensures.each p c.args.x.now s store c.args.frames.now.newest.operands c.args.test
    c.both_refs-in-Other.result c.in-Other.is (c.both_refs-in-Other.ensures p)

pub returns-in-Null : goal.returns-in-Null
returns-in-Null g c p s store =
    is_null_served c.heap_laws.ensures.each p c.args.x.now s store c.args.frames.now.newest.operands c.args.test
    c.ref_at.result c.in-Null.is (c.ref_at.ensures p)

pub returns-in-NonNull : goal.returns-in-NonNull
returns-in-NonNull g c p s store =
    non_null_served c.heap_laws.ensures.each p c.args.x.now s store c.args.frames.now.newest.operands c.args.test
    c.ref_at-in-NonNull.result c.in-NonNull.is (c.ref_at-in-NonNull.ensures p)
