use Rattle.std.proofs.Common.{true, false, refl, sym, ◌∙◌}
use Rattle.jserving.proofs.JserveProofs.ArrayStores.{store_served}
use Rattle.jserving.proofs.jserve.storing.store_serves.Goals as goal

pub returns-then-not-ref_at : goal.returns-then-not-ref_at
returns-then-not-ref_at g c p at s store here =
    store_served c.heap_laws.ensures.each p c.args.x.now s store c.args.frames.now.newest.operands at false _ _ here
    (sym c.if-not-ref_at.true ∙ c.ref_at.ensures p) refl refl

pub returns-then-not-int_at : goal.returns-then-not-int_at
returns-then-not-int_at g c p at s store here =
    store_served c.heap_laws.ensures.each p c.args.x.now s store c.args.frames.now.newest.operands at true false _ here
    (sym c.if-not-ref_at.false ∙ c.ref_at.ensures p) (sym c.if-not-int_at.true ∙ c.int_at.ensures p c.args.x.now) refl

pub returns : goal.returns
returns g c p at s store here =
    store_served c.heap_laws.ensures.each p c.args.x.now s store c.args.frames.now.newest.operands at true true c.refs_at.result here
    (sym c.if-not-ref_at.false ∙ c.ref_at.ensures p) (sym c.if-not-int_at.false ∙ c.int_at.ensures p c.args.x.now) (c.refs_at.ensures p)
