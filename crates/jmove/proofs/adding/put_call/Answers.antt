use Rattle.std.proofs.Common.{sym, ◌∙◌}
use Rattle.std.proofs.lemmas.Result.{err_from_is_err_and}
use Rattle.jmove.specs.PoolAdditions.{with_call, with_changed}
use Rattle.jmove.proofs.PoolGrowth.{call_grows, no_memory}
use Rattle.jmove.proofs.ReferenceAdditions.{call_is, call_none, call_no_text, same_adds}
use Rattle.jmove.proofs.adding.put_call.Goals as goal

pub returns-in_default : goal.returns-in_default
returns-in_default c = call_none c.args.i c.args.pool.now (sym (rw c.pool.ensures.same at c.reference_at.ensures) ∙ c.in_default.is)

pub returns-in_err-text : goal.returns-in_err-text
returns-in_err-text c =
    let p = err_from_is_err_and c.from_residual.result c.from_residual.ensures.1 in
    rw (p.1, p.2) (no_memory (with_call c.args.i) c.args.pool.now (call_grows c.args.i))

pub returns-in_default-2 : goal.returns-in_default-2
returns-in_default-2 c =
    let reference = sym (rw c.pool.ensures.same at c.reference_at.ensures) ∙ c.in-Some.is in
    let text = sym (rw c.pool-2.ensures.same at (rw c.in_default-2.is at c.in_ok-text.ensures.value)) in
    call_no_text c.args.i c.args.pool.now c.in-Some.reference reference text

pub returns : goal.returns
returns c =
    let reference = sym (rw c.pool.ensures.same at c.reference_at.ensures) ∙ c.in-Some.is in
    let text = sym (rw c.pool-2.ensures.same at (rw c.in-Some-2.is at c.in_ok-text.ensures.value)) in
    same_adds (λ i. i) (with_call c.args.i) (with_changed c.in-Some.reference c.in-Some-2.text.items) c.put_changed.result c.args.pool.now c.put_changed.new.pool
    (call_is c.args.i c.args.pool.now c.in-Some.reference c.in-Some-2.text.items reference text) (rw c.as_slice.ensures.value at c.put_changed.ensures)
