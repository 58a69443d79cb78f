use Rattle.std.specs.Prelude.{Result}
use Rattle.std.proofs.Common.{subst, sym}
use Rattle.std.proofs.lemmas.Result.{err_from_is_err_and}
use Rattle.jlib.specs.declared.side.Side.TheVariants.{Source}
use Rattle.jresolution.specs.jprogram.ProgramClasses.{Program}
use Rattle.jtasks.specs.jstages.Stages.{Follows, Stopped}
use Rattle.jtasks.proofs.JtaskProofs.StageOutcomes.{move_unlinked, move_untyped, moves}
use Rattle.jtasks.proofs.JtaskProofs.Sides.{on_side}
use Rattle.jtasks.proofs.jtask.tasks.moved_of_parts.Goals as goal

pub returns-in_err-joined-clause-value : goal.returns-in_err-joined-clause-value
returns-in_err-joined-clause-value c =
    let p = err_from_is_err_and c.from_residual.result c.from_residual.ensures.1 in
    rw (p.1, p.2) (move_unlinked c.args.parts c.in_err-joined.field-0.0 c.in_err-joined.ensures.value)

pub returns-in_err-program-clause-value : goal.returns-in_err-program-clause-value
returns-in_err-program-clause-value c =
    let p = err_from_is_err_and c.from_residual-in_err-program.result c.from_residual-in_err-program.ensures.1 in
    rw (p.1, p.2) (move_untyped c.args.parts c.in_err-program.field-0.0 c.in_ok-joined.joined c.in_ok-joined.ensures.value c.in_err-program.ensures.value)

pub moved_of-requires : goal.moved_of-requires
moved_of-requires c = on_side Source c.args.parts c.in_ok-joined.joined c.in_ok-program.program c.in_ok-joined.ensures.value c.in_ok-program.ensures.value

pub returns-clause-value : goal.returns-clause-value
returns-clause-value c = subst (λ (o : Result Program Stopped). Follows (λ (p : Program). p) c.moved_of.result o) (sym (moves c.args.parts c.in_ok-joined.joined c.in_ok-program.program c.in_ok-joined.ensures.value c.in_ok-program.ensures.value)) c.moved_of.ensures.value
