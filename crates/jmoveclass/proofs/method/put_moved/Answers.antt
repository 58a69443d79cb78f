use Rattle.std.proofs.lemmas.Result.{err_from_is_err_and}
use Rattle.jmoveclass.specs.MovableClasses.{seen_body}
use Rattle.jmoveclass.proofs.MoveAnswers.{frames_near, locals_near, moved_is, moved_puts, moved_refused, stack_near}
use Rattle.jmoveclass.proofs.method.put_moved.Goals as goal

pub returns-in_err-out : goal.returns-in_err-out
returns-in_err-out c =
    let p = err_from_is_err_and c.from_residual.result c.from_residual.ensures.1 in
    rw (p.1, p.2) (moved_refused c.args.m.now c.args.kinds.now c.args.domain c.args.name (seen_body c.args.b) c.in_err-out.field-0.0 c.move_method.new.pool c.args.pool.now c.requires.limits c.in_err-out.ensures.value)

pub moved_code-requires-clause-stack : goal.moved_code-requires-clause-stack
moved_code-requires-clause-stack c =
    stack_near c.args.m.now c.args.kinds.now c.args.domain c.args.pool.now c.move_method.new.pool c.in_ok-out.out c.requires.can c.requires.limits
    (moved_is c.args.m.now c.args.kinds.now c.args.domain c.args.pool.now c.move_method.new.pool c.in_ok-out.out c.requires.limits c.in_ok-out.ensures.value)

pub moved_code-requires-clause-locals : goal.moved_code-requires-clause-locals
moved_code-requires-clause-locals c =
    locals_near c.args.m.now c.args.kinds.now c.args.domain c.args.pool.now c.move_method.new.pool c.in_ok-out.out c.requires.can c.requires.limits
    (moved_is c.args.m.now c.args.kinds.now c.args.domain c.args.pool.now c.move_method.new.pool c.in_ok-out.out c.requires.limits c.in_ok-out.ensures.value)

pub moved_code-requires-clause-frames : goal.moved_code-requires-clause-frames
moved_code-requires-clause-frames c =
    frames_near c.args.m.now c.args.kinds.now c.args.domain c.args.pool.now c.move_method.new.pool c.in_ok-out.out c.requires.can c.requires.limits
    (moved_is c.args.m.now c.args.kinds.now c.args.domain c.args.pool.now c.move_method.new.pool c.in_ok-out.out c.requires.limits c.in_ok-out.ensures.value)

pub returns : goal.returns
returns c =
    moved_puts c.args.m.now c.args.kinds.now c.args.domain c.args.name (seen_body c.args.b) c.args.pool.now c.move_method.new.pool c.in_ok-out.out c.in_ok-code.code
    (moved_is c.args.m.now c.args.kinds.now c.args.domain c.args.pool.now c.move_method.new.pool c.in_ok-out.out c.requires.limits c.in_ok-out.ensures.value) c.in_ok-code.ensures
