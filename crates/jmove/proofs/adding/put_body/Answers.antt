use Rattle.std.proofs.lemmas.Result.{err_from_is_err_and}
use Rattle.jmove.proofs.Bodies.{body_is, enter_refused, frames_refused, kinds_refused}
use Rattle.jmove.proofs.adding.put_body.Goals as goal

pub returns-in_err-enter : goal.returns-in_err-enter
returns-in_err-enter c =
    let p = err_from_is_err_and c.from_residual.result c.from_residual.ensures.1 in
    rw (p.1, p.2) (enter_refused c.args.kinds.now c.args.frames.now c.in_err-enter.field-0.0 c.args.pool.now c.put_security.new.pool c.in_err-enter.ensures)

pub returns-in_err-kinds : goal.returns-in_err-kinds
returns-in_err-kinds c =
    let p = err_from_is_err_and c.from_residual-in_err-kinds.result c.from_residual-in_err-kinds.ensures.1 in
    rw (p.1, p.2) (kinds_refused c.args.kinds.now c.args.frames.now c.in_err-kinds.field-0.0 c.args.pool.now c.put_security.new.pool c.put_expansions.new.pool c.in_ok-enter.enter c.in_ok-enter.ensures c.in_err-kinds.ensures)

pub returns-in_err-context : goal.returns-in_err-context
returns-in_err-context c =
    let p = err_from_is_err_and c.from_residual-in_err-context.result c.from_residual-in_err-context.ensures.1 in
    rw (p.1, p.2) (frames_refused c.args.kinds.now c.args.frames.now c.in_err-context.field-0.0 c.args.pool.now c.put_security.new.pool c.put_expansions.new.pool c.put_frames.new.pool c.in_ok-enter.enter c.in_ok-kinds.kinds
    c.in_ok-enter.ensures c.in_ok-kinds.ensures c.in_err-context.ensures)

pub returns : goal.returns
returns c =
    body_is c.args.kinds.now c.args.frames.now c.args.pool.now c.put_security.new.pool c.put_expansions.new.pool c.put_frames.new.pool c.in_ok-enter.enter c.in_ok-kinds.kinds c.in_ok-context.context
    c.in_ok-enter.ensures c.in_ok-kinds.ensures c.in_ok-context.ensures
