use Rattle.std.proofs.Common.{◌∙◌, ap, subst}
use Rattle.std.specs.Prelude.{IfOk}
use Rattle.jresolution.specs.declared.jprogram.member.MethodId.{MethodId}
use Rattle.jresolution.specs.jprogram.ProgramClasses.{Program}
use Rattle.jstepping.specs.jstep.StepRelation.{SettlesCall}
use Rattle.jstepping.proofs.JstepProofs.CallSteps.{all_called, call_untaken}
use Rattle.jstepping.proofs.jstep.calling.step_call.Goals as goal

pub returns-in_default-taken-clause-row : goal.returns-in_default-taken-clause-row
returns-in_default-taken-clause-row g c =
    call_untaken c.args.calls.now c.args.fixed.now c.args.counts c.args.by c.args.pool c.args.params c.args.frames.now c.args.heap.now c.requires.fixed
    c.in-Some.owner c.owner_at.result c.method.result.class (ap (λ (m : MethodId). m.class) c.method.ensures) c.in-Some.is
    c.owner_at.ensures c.taken.result c.taken.ensures.takes c.args.frames.now c.in_default-taken.is

pub returns-clause-row : goal.returns-clause-row
returns-clause-row g c =
    let Q : Program → Type 0 = λ q. IfOk c.settle_call.result (λ done.
    SettlesCall c.args.fixed.now.marks.now q c.in_ok-called.called c.in-Some-taken.count c.invoke.new.frames c.args.heap.now done c.settle_call.new.frames
    c.settle_call.new.heap) in
    all_called c.args.calls.now c.args.fixed.now c.args.counts c.args.by c.args.pool c.args.params c.args.frames.now c.args.heap.now c.requires.fixed
    c.in-Some.owner c.owner_at.result c.method.result.class (ap (λ (m : MethodId). m.class) c.method.ensures) c.in-Some.is c.owner_at.ensures c.taken.result c.taken.ensures.takes
    c.settle_call.result c.in-Some-taken.count c.in_ok-called.called c.invoke.new.frames c.settle_call.new.frames c.settle_call.new.heap c.in-Some-taken.is
    c.in_ok-called.ensures.call (subst Q (c.known-known.ensures ∙ c.in_ok-called.ensures.same) c.settle_call.ensures.row)
