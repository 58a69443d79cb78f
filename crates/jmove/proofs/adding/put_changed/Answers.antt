use Rattle.std.proofs.lemmas.Result.{err_from_is_err_and}
use Rattle.jparts.specs.declared.jpool.entry.Entry.TheVariants.{NameAndType, Utf8}
use Rattle.jmove.specs.PoolAdditions.{reference_entry, with_changed, with_entry, with_text, ◌>>◌}
use Rattle.jmove.proofs.PoolGrowth.{entry_grows, first_refused, second_refused, then_adds, then_grows}
use Rattle.jmove.proofs.adding.put_changed.Goals as goal

pub returns-in_err-descriptor : goal.returns-in_err-descriptor
unfolding with_changed
returns-in_err-descriptor c =
    let p = err_from_is_err_and c.from_residual.result c.from_residual.ensures.1 in
    let r = c.args.reference in
    rw (p.1, p.2) (first_refused (with_text c.args.text.now) (λ d. with_entry (NameAndType r.name d) >> λ b. with_entry (reference_entry r b)) c.in_err-descriptor.field-0.0 c.args.pool.now c.put_text.new.pool
    (λ d. then_grows (with_entry (NameAndType r.name d)) (λ b. with_entry (reference_entry r b)) (entry_grows (NameAndType r.name d)) (λ b. entry_grows (reference_entry r b))) c.in_err-descriptor.ensures.value)

pub returns-in_err-both : goal.returns-in_err-both
unfolding with_changed
returns-in_err-both c =
    let p = err_from_is_err_and c.from_residual-in_err-both.result c.from_residual-in_err-both.ensures.1 in
    let r = c.args.reference in
    let d = c.in_ok-descriptor.descriptor in
    rw (p.1, p.2) (second_refused (with_text c.args.text.now) (λ d. with_entry (NameAndType r.name d) >> λ b. with_entry (reference_entry r b)) c.in_err-both.field-0.0 c.args.pool.now c.put_text.new.pool c.put.new.pool
    d (entry_grows (Utf8 c.args.text.now)) c.in_ok-descriptor.ensures.value
    (first_refused (with_entry (NameAndType r.name d)) (λ b. with_entry (reference_entry r b)) c.in_err-both.field-0.0 c.put_text.new.pool c.put.new.pool (λ b. entry_grows (reference_entry r b)) c.in_err-both.ensures.value))

pub returns : goal.returns
unfolding with_changed
returns c =
    let r = c.args.reference in
    let d = c.in_ok-descriptor.descriptor in
    let h = rw c.reference_entry.ensures.entry at c.put-2.ensures.value in
    then_adds (λ i. i) (with_text c.args.text.now) (λ d. with_entry (NameAndType r.name d) >> λ b. with_entry (reference_entry r b)) c.put-2.result c.args.pool.now c.put_text.new.pool c.put-2.new.pool
    d (entry_grows (Utf8 c.args.text.now)) c.in_ok-descriptor.ensures.value
    (then_adds (λ i. i) (with_entry (NameAndType r.name d)) (λ b. with_entry (reference_entry r b)) c.put-2.result c.put_text.new.pool c.put.new.pool c.put-2.new.pool c.in_ok-both.both
    (entry_grows (NameAndType r.name d)) c.in_ok-both.ensures.value h)
