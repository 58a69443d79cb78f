use Rattle.std.proofs.Common.{sym, ◌∙◌}
use Rattle.jserving.specs.jserve.OperandChecks.{serves_in}
use Rattle.jserving.proofs.JserveProofs.FittingOperands.{fails, goes_on, none_left}
use Rattle.jserving.proofs.jserve.serving.params_serve.Goals as goal

pub returns-then-not-serves_at : goal.returns-then-not-serves_at
returns-then-not-serves_at g c =
    sym (fails (serves_in c.args.a.now c.args.x.now) c.args.a.now c.args.params.now c.loop-i.i _ c.args.frames.now.newest.operands c.loop-i-test.true _
    c.serves_at.ensures c.if-not-serves_at.true) ∙ c.loop-i.invariant

pub loop-i-preserved : goal.loop-i-preserved
loop-i-preserved g c =
    sym (goes_on (serves_in c.args.a.now c.args.x.now) c.args.a.now c.args.params.now c.loop-i.i _ c.args.frames.now.newest.operands c.loop-i-test.true _
    c.serves_at.ensures c.if-not-serves_at.false) ∙ c.loop-i.invariant

pub returns : goal.returns
returns g c = sym (none_left (serves_in c.args.a.now c.args.x.now) c.args.a.now c.args.params.now c.loop-i.i _ c.loop-i-test.false) ∙ c.loop-i.invariant
