use Rattle.std.proofs.Common.{true, false, length, refl, sym, ◌∙◌}
use Rattle.jserving.proofs.JserveProofs.CallOperands.{init_served}
use Rattle.jserving.proofs.JserveProofs.OperandCounts.{begins_few}
use Rattle.jserving.proofs.jserve.calls.init_serves.Goals as goal

pub returns-then-not-params_serve-clause-serve : goal.returns-then-not-params_serve-clause-serve
returns-then-not-params_serve-clause-serve g c s m store call =
    init_served c.heap_laws.ensures.each c.args.a.now c.args.x.now s store c.args.owner c.args.params.now m call c.args.frames.now.newest.operands
    c.args.frames.now.newest.method.class
    false _ (sym c.if-not-params_serve.true ∙ c.params_serve.ensures) refl

pub returns-clause-serve : goal.returns-clause-serve
returns-clause-serve g c s m store call =
    init_served c.heap_laws.ensures.each c.args.a.now c.args.x.now s store c.args.owner c.args.params.now m call c.args.frames.now.newest.operands
    c.args.frames.now.newest.method.class
    true c.begins_at.result (sym c.if-not-params_serve.false ∙ c.params_serve.ensures) c.begins_at.ensures

pub returns-clause-few : goal.returns-clause-few
returns-clause-few g c =
    begins_few c.args.a.now c.args.x.now c.args.owner (length c.args.params.now) c.args.frames.now.newest.operands c.begins_at.result c.begins_at.ensures
