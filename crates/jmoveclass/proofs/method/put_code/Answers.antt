use Rattle.std.proofs.lemmas.Result.{err_from_is_err_and}
use Rattle.jmoveclass.specs.MovableClasses.{seen_body}
use Rattle.jmoveclass.proofs.CodeMoves.{code_can, code_limit, code_puts, first_only_refused}
use Rattle.jmoveclass.proofs.method.put_code.Goals as goal

pub returns-in_err-first : goal.returns-in_err-first
returns-in_err-first c =
    let p = err_from_is_err_and c.from_residual.result c.from_residual.ensures.1 in
    rw (p.1, p.2) (first_only_refused c.args.c.now.program.now c.args.c.now.class.now c.args.c.now.domain c.args.m.now c.args.name (seen_body c.args.b) c.in_err-first.field-0.0 c.args.pool.now c.in_err-first.ensures)

pub put_moved-requires-clause-can : goal.put_moved-requires-clause-can
put_moved-requires-clause-can c =
    let code = c.requires.code in
    rw (c.as_slice-kinds.ensures, c.in_ok-kinds.ensures, c.in_ok-method.ensures, c.as_slice.ensures)
    (code_can c.args.c.now.program.now c.args.c.now.class.now c.args.m.now (seen_body c.args.b) c.args.pool.now c.put_first.new.pool c.in_ok-first.first c.in_ok-first.ensures
    (c.requires.moving.can c.args.m.now code.attribute (seen_body c.args.b) code.method code.there code.is_body))

pub put_moved-requires-clause-limits : goal.put_moved-requires-clause-limits
put_moved-requires-clause-limits c =
    rw (c.as_slice-kinds.ensures, c.in_ok-kinds.ensures, c.in_ok-method.ensures, c.as_slice.ensures)
    (code_limit c.args.c.now.program.now c.args.c.now.class.now c.args.m.now (seen_body c.args.b) c.args.pool.now c.put_first.new.pool c.in_ok-first.first c.in_ok-first.ensures c.requires.limits)

pub returns : goal.returns
returns c =
    let r = rw (c.as_slice-kinds.ensures, c.in_ok-kinds.ensures, c.in_ok-method.ensures, c.as_slice.ensures) at c.put_moved.ensures in
    code_puts c.args.c.now.program.now c.args.c.now.class.now c.args.c.now.domain c.args.m.now c.args.name (seen_body c.args.b) c.put_moved.result c.args.pool.now c.put_first.new.pool c.put_moved.new.pool c.in_ok-first.first c.in_ok-first.ensures r
