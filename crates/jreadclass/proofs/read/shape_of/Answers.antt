use Rattle.std.proofs.Common.{◌∙◌}
use Rattle.std.proofs.lemmas.Result.{err_from_is_err_and}
use Rattle.jclass.proofs.FirstPass.{shape_is, head_stops, tail_stops}
use Rattle.jreadclass.proofs.read.shape_of.Goals as goal

pub returns-in_err-head-clause-shape : goal.returns-in_err-head-clause-shape
returns-in_err-head-clause-shape c =
    let p = err_from_is_err_and c.from_residual.result c.from_residual.ensures.1 in
    rw (p.1, p.2) (head_stops c.args.bytes.now c.in_err-head.field-0.0 c.in_err-head.ensures)

pub returns-in_err-skip_to_the_end-clause-shape : goal.returns-in_err-skip_to_the_end-clause-shape
returns-in_err-skip_to_the_end-clause-shape c =
    let p = err_from_is_err_and c.from_residual-in_err-skip_to_the_end.result c.from_residual-in_err-skip_to_the_end.ensures.1 in
    rw (p.1, p.2) (tail_stops c.args.bytes.now c.in_ok-head.rest.now _ c.in_err-skip_to_the_end.field-0.0 c.in_ok-head.ensures c.in_err-skip_to_the_end.ensures)

pub returns-clause-shape : goal.returns-clause-shape
returns-clause-shape c = shape_is c.args.bytes.now c.in_ok-head.rest.now _ c.in_ok-head.ensures ∙ c.in_ok-skip_to_the_end.ensures
