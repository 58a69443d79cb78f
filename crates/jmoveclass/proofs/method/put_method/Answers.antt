use Rattle.std.proofs.lemmas.Result.{err_from_is_err_and}
use Rattle.jmoveclass.proofs.MethodMoves.{attributes_refused, desc_refused, method_put}
use Rattle.jmoveclass.proofs.method.put_method.Goals as goal

pub returns-in_err-desc : goal.returns-in_err-desc
returns-in_err-desc c =
    let p = err_from_is_err_and c.from_residual-in_err-desc.result c.from_residual-in_err-desc.ensures.1 in
    let r = rw (c.as_slice.ensures, c.in_ok-text.ensures.text) at c.in_err-desc.ensures in
    rw (p.1, p.2) (desc_refused c.args.c.now.program.now c.args.c.now.class.now c.args.c.now.domain c.args.m.now c.in_err-desc.field-0.0 c.args.pool.now r.value.0)

pub returns-in_err-attributes : goal.returns-in_err-attributes
returns-in_err-attributes c =
    let p = err_from_is_err_and c.from_residual-in_err-attributes.result c.from_residual-in_err-attributes.ensures.1 in
    let r = rw (c.as_slice.ensures, c.in_ok-text.ensures.text) at c.in_ok-desc.ensures in
    rw (p.1, p.2) (attributes_refused c.args.c.now.program.now c.args.c.now.class.now c.args.c.now.domain c.args.m.now c.in_err-attributes.field-0.0 c.args.pool.now c.put_text.new.pool c.in_ok-desc.desc r.value c.in_err-attributes.ensures)

pub returns : goal.returns
returns c =
    let r = rw (c.as_slice.ensures, c.in_ok-text.ensures.text) at c.in_ok-desc.ensures in
    method_put c.args.c.now.program.now c.args.c.now.class.now c.args.c.now.domain c.args.m.now c.args.pool.now c.put_text.new.pool c.put_attributes.new.pool c.in_ok-desc.desc c.in_ok-attributes.attributes r.value c.in_ok-attributes.ensures
