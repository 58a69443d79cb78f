use Rattle.std.proofs.lemmas.Result.{err_from_is_err_and}
use Rattle.jtasks.proofs.JtaskProofs.StageOutcomes.{check_unlinked, check_untyped, checks}
use Rattle.jtasks.proofs.jtask.tasks.check_of_parts.Goals as goal

pub returns-in_err-joined-clause-value : goal.returns-in_err-joined-clause-value
returns-in_err-joined-clause-value c =
    let p = err_from_is_err_and c.from_residual.result c.from_residual.ensures.1 in
    rw (p.1, p.2) (check_unlinked c.args.side c.args.parts c.in_err-joined.field-0.0 c.in_err-joined.ensures.value)

pub returns-in_err-program-clause-value : goal.returns-in_err-program-clause-value
returns-in_err-program-clause-value c =
    let p = err_from_is_err_and c.from_residual-in_err-program.result c.from_residual-in_err-program.ensures.1 in
    rw (p.1, p.2) (check_untyped c.args.side c.args.parts c.in_err-program.field-0.0 c.in_ok-joined.joined c.in_ok-joined.ensures.value c.in_err-program.ensures.value)

pub returns-clause-value : goal.returns-clause-value
returns-clause-value c = checks c.args.side c.args.parts c.in_ok-joined.joined c.in_ok-program.program c.in_ok-joined.ensures.value c.in_ok-program.ensures.value
