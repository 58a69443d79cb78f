use Rattle.std.proofs.Common.{◌≡◌, sym, subst}
use Rattle.std.specs.List.{flat_map}
use Rattle.std.proofs.lemmas.Result.{err_from_is_err_and}
use Rattle.jground.specs.jtext.Modified.{group}
use Rattle.jresolution.specs.jprogram.ProgramClasses.{Program, program}
use Rattle.jshow.specs.declared.refusal.Refusal.TheVariants.{NoMain}
use Rattle.jtasks.specs.jstages.LinkStage.{AreClasses}
use Rattle.jtasks.proofs.JtaskProofs.Mains.{run_main}
use Rattle.jtasks.proofs.JtaskProofs.StageOutcomes.{run_unlinked, run_unnamed, run_untyped, runs}
use Rattle.jtasks.proofs.JtaskProofs.Sides.{linked_is, on_side}
use Rattle.jtasks.proofs.jtask.tasks.runnable.Goals as goal

pub returns-in_err-joined-clause-value : goal.returns-in_err-joined-clause-value
returns-in_err-joined-clause-value c =
    let p = err_from_is_err_and c.from_residual.result c.from_residual.ensures.1 in
    rw (p.1, p.2) (run_unlinked c.args.side c.args.name.now c.args.parts c.in_err-joined.field-0.0 c.in_err-joined.ensures.value)

pub returns-in-Err-clause-value : goal.returns-in-Err-clause-value
returns-in-Err-clause-value c = run_unnamed c.args.side c.args.name.now c.args.parts c.in-Err.halt c.in_ok-joined.joined c.in_ok-joined.ensures.value c.in-Err.ensures.value

pub returns-in_err-program-in-Ok-clause-value : goal.returns-in_err-program-in-Ok-clause-value
returns-in_err-program-in-Ok-clause-value c =
    let p = err_from_is_err_and c.from_residual-in_err-program-in-Ok.result c.from_residual-in_err-program-in-Ok.ensures.1 in
    rw (p.1, p.2) (run_untyped c.args.side c.args.name.now c.args.parts c.in_err-program-in-Ok.field-0.0 c.in_ok-joined.joined c.in-Ok.main c.in_ok-joined.ensures.value c.in-Ok.ensures.value c.in_err-program-in-Ok.ensures.value)

pub returns-in_ok-program-in-Ok-clause-value : goal.returns-in_ok-program-in-Ok-clause-value
returns-in_ok-program-in-Ok-clause-value c = runs c.args.side c.args.name.now c.args.parts c.in_ok-joined.joined c.in_ok-program-in-Ok.program c.in-Ok.main c.in_ok-joined.ensures.value c.in-Ok.ensures.value c.in_ok-program-in-Ok.ensures.value

pub returns-in_ok-program-in-Ok-clause-main : goal.returns-in_ok-program-in-Ok-clause-main
returns-in_ok-program-in-Ok-clause-main c = run_main (NoMain c.args.name.now) c.in_ok-joined.joined c.in_ok-program-in-Ok.program (flat_map group c.args.name.now) c.in-Ok.main c.in-Ok.ensures.value c.in_ok-program-in-Ok.ensures.value

pub returns-in_ok-program-in-Ok-clause-side : goal.returns-in_ok-program-in-Ok-clause-side
returns-in_ok-program-in-Ok-clause-side c = on_side c.args.side c.args.parts c.in_ok-joined.joined c.in_ok-program-in-Ok.program c.in_ok-joined.ensures.value c.in_ok-program-in-Ok.ensures.value

pub returns-in_ok-program-in-Ok-clause-classes : goal.returns-in_ok-program-in-Ok-clause-classes
returns-in_ok-program-in-Ok-clause-classes c =
    let same : program c.args.side c.args.parts ≡ c.in_ok-joined.joined = linked_is (program c.args.side c.args.parts) c.in_ok-joined.joined c.in_ok-joined.ensures.value in
    subst (λ (p : Program). AreClasses p.parts) (sym same) c.are_classes.ensures
