use Rattle.std.proofs.Common.{sym, ◌∙◌}
use Rattle.std.proofs.lemmas.Result.{err_from_is_err_and}
use Rattle.jmoveclass.proofs.PrologueAdditions.{item_put, item_refused}
use Rattle.jmoveclass.proofs.beginning.put_item.Goals as goal

pub returns-in_err-class : goal.returns-in_err-class
returns-in_err-class c =
    let p = err_from_is_err_and c.from_residual-in_err-class.result c.from_residual-in_err-class.ensures.1 in
    let r = rw (c.as_slice.ensures, c.in_ok-name.ensures) at c.in_err-class.ensures in
    rw (p.1, p.2) (item_refused c.args.t.now c.in_err-class.field-0.0 c.args.pool.now (sym c.is_reference.ensures ∙ c.if-not-is_reference.false) r.0)

pub returns : goal.returns
returns c =
    let r = rw (c.as_slice.ensures, c.in_ok-name.ensures) at c.in_ok-class.ensures in
    rw c.item-2.ensures (item_put c.args.t.now c.in_ok-class.class c.args.pool.now c.put_class.new.pool (sym c.is_reference.ensures ∙ c.if-not-is_reference.false) r)
