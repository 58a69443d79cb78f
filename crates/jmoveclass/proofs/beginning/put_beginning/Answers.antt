use Rattle.std.proofs.lemmas.Result.{err_from_is_err_and}
use Rattle.jmoveclass.proofs.PrologueAdditions.{begun_is, others_refused, this_first_refused}
use Rattle.jmoveclass.proofs.TextLengths.{class_short, classes_short}
use Rattle.jmoveclass.proofs.beginning.put_beginning.Goals as goal

pub put_this-requires : goal.put_this-requires
put_this-requires c = class_short c.args.class.now.pool c.args.class.now.this_class c.entries-entries.ensures.kept

pub returns-in_err-items : goal.returns-in_err-items
returns-in_err-items c =
    let p = err_from_is_err_and c.from_residual.result c.from_residual.ensures.1 in
    rw (p.1, p.2) (this_first_refused c.args.class.now c.args.method.now c.in_err-items.field-0.0 c.args.pool.now c.in_err-items.ensures)

pub put_items-requires : goal.put_items-requires
put_items-requires c = rw c.requires (classes_short c.args.class.now c.args.method.now c.entries-entries.ensures.kept)

pub returns-in_err-others : goal.returns-in_err-others
returns-in_err-others c =
    let p = err_from_is_err_and c.from_residual-in_err-others.result c.from_residual-in_err-others.ensures.1 in
    rw (p.1, p.2) (others_refused c.args.class.now c.args.method.now c.in_err-others.field-0.0 c.args.pool.now c.put_this.new.pool c.in_ok-items.items c.in_ok-items.ensures (rw c.requires at c.in_err-others.ensures))

pub returns : goal.returns
returns c =
    rw (c.in_ok-extend.ensures.ok, c.as_slice.ensures) (begun_is c.args.class.now c.args.method.now c.args.pool.now c.put_this.new.pool c.put_items.new.pool c.in_ok-items.items c.in_ok-others.others c.in_ok-items.ensures
    (rw c.requires at c.in_ok-others.ensures))
