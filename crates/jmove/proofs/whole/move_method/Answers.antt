use Rattle.std.proofs.Common.{◌∙◌, List, sym, subst}
use Rattle.std.proofs.lemmas.Result.{err_from_is_err_and}
use Rattle.jparts.specs.declared.jpool.entry.Entry.{Entry}
use Rattle.jmove.specs.PoolAdditions.{IsFront}
use Rattle.jmove.specs.declared.naming.Named.{Named}
use Rattle.jmove.proofs.PoolGrowth.{body_grows}
use Rattle.jmove.proofs.MoveAnswers.{full_answer, limit_answer, named_can, named_limit, whole_answer}
use Rattle.jmove.proofs.whole.move_method.Goals as goal

pub returns-in-Some-clause-value : goal.returns-in-Some-clause-value
returns-in-Some-clause-value c = limit_answer c.args.m.now c.args.kinds.now c.args.domain c.args.pool.now c.in-Some.limit (sym c.in-Some.is ∙ c.limit_of.ensures)

pub returns-in-Some-clause-front : goal.returns-in-Some-clause-front
returns-in-Some-clause-front c = (body_grows c.args.kinds.now c.args.m.now.frames).on c.args.pool.now

pub returns-in_err-named-clause-value : goal.returns-in_err-named-clause-value
returns-in_err-named-clause-value c =
    let p = err_from_is_err_and c.from_residual.result c.from_residual.ensures.1 in
    let refused = rw c.as_slice.ensures at c.in_err-named.ensures in
    rw (p.1, p.2) (full_answer c.args.m.now c.args.kinds.now c.args.domain c.args.pool.now c.put_body.new.pool c.in_err-named.field-0.0 (sym c.limit_of.ensures ∙ c.in_default.is) refused.0)

pub moved_by-requires-clause-can : goal.moved_by-requires-clause-can
moved_by-requires-clause-can c =
    let is = rw c.as_slice.ensures at c.in_ok-named.ensures in
    rw c.as_slice-kinds.ensures (named_can c.args.m.now c.args.kinds.now c.args.pool.now c.put_body.new.pool c.in_ok-named.named is c.requires.can)

pub moved_by-requires-clause-limits : goal.moved_by-requires-clause-limits
moved_by-requires-clause-limits c =
    let is = rw c.as_slice.ensures at c.in_ok-named.ensures in
    rw c.as_slice-kinds.ensures (named_limit c.args.m.now c.args.kinds.now c.args.pool.now c.put_body.new.pool c.in_ok-named.named is (sym c.limit_of.ensures ∙ c.in_default.is))

pub returns-in_err-moved-clause-kept : goal.returns-in_err-moved-clause-kept
returns-in_err-moved-clause-kept c =
    let p = err_from_is_err_and c.from_residual-in_err-moved.result c.from_residual-in_err-moved.ensures.1 in
    let is = rw c.as_slice.ensures at c.in_ok-named.ensures in
    rw p.1 (subst (λ (x : Named × List Entry). IsFront c.args.pool.now x.1) is ((body_grows c.args.kinds.now c.args.m.now.frames).on c.args.pool.now))

pub returns-clause-value : goal.returns-clause-value
returns-clause-value c =
    let is = rw c.as_slice.ensures at c.in_ok-named.ensures in
    whole_answer c.args.m.now c.args.kinds.now c.args.domain c.args.pool.now c.put_body.new.pool c.in_ok-named.named c.in_ok-moved.moved (sym c.limit_of.ensures ∙ c.in_default.is) is c.pool-pool.ensures.kept
    (rw c.as_slice-kinds.ensures at c.in_ok-moved.ensures)
