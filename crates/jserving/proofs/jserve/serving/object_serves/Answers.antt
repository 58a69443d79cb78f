use Rattle.std.proofs.Common.{true, false, refl, sym, ◌∙◌}
use Rattle.jserving.specs.jserve.OperandChecks.{serves_in}
use Rattle.jserving.proofs.JserveProofs.FittingOperands.{both_serve}
use Rattle.jserving.proofs.jserve.serving.object_serves.Goals as goal

pub returns-then-not-params_serve : goal.returns-then-not-params_serve
returns-then-not-params_serve g c =
    both_serve (serves_in c.args.a.now c.args.x.now) c.args.a.now c.args.params.now c.args.object c.args.frames.now.newest.operands false _
    (sym c.if-not-params_serve.true ∙ c.params_serve.ensures) refl

pub returns : goal.returns
returns g c =
    both_serve (serves_in c.args.a.now c.args.x.now) c.args.a.now c.args.params.now c.args.object c.args.frames.now.newest.operands true c.serves_at.result
    (sym c.if-not-params_serve.false ∙ c.params_serve.ensures) c.serves_at.ensures
