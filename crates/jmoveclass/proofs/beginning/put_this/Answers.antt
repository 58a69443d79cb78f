use Rattle.std.proofs.Common.{sym, ◌∙◌}
use Rattle.std.proofs.lemmas.Result.{err_from_is_err_and}
use Rattle.jmoveclass.proofs.PrologueAdditions.{this_put, this_refused}
use Rattle.jmoveclass.proofs.beginning.put_this.Goals as goal

pub returns-in_err-i : goal.returns-in_err-i
returns-in_err-i c =
    let p = err_from_is_err_and c.from_residual.result c.from_residual.ensures.1 in
    let r = rw c.this_name.ensures at c.in_err-i.ensures in
    rw (p.1, p.2) (this_refused c.args.class.now c.args.method.now c.in_err-i.field-0.0 c.args.pool.now (sym c.is_static.ensures ∙ c.if-is_static.false) r.0)

pub returns : goal.returns
returns c =
    let r = rw c.this_name.ensures at c.in_ok-i.ensures in
    rw (c.in_ok-push.ensures.ok, c.new-items.ensures, c.this_item.ensures, c.is_init.ensures) (this_put c.args.class.now c.args.method.now c.in_ok-i.i c.args.pool.now c.put_class.new.pool (sym c.is_static.ensures ∙ c.if-is_static.false) r)
