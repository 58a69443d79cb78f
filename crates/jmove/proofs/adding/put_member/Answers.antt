use Rattle.std.proofs.lemmas.Result.{err_from_is_err_and}
use Rattle.jparts.specs.declared.jpool.entry.Entry.TheVariants.{NameAndType, Utf8}
use Rattle.jmove.specs.PoolAdditions.{with_member, with_entry, with_text, ◌>>◌}
use Rattle.jmove.proofs.PoolGrowth.{entry_grows, first_refused, second_refused, then_adds, then_grows}
use Rattle.jmove.proofs.adding.put_member.Goals as goal

pub returns-in_err-name : goal.returns-in_err-name
unfolding with_member
returns-in_err-name c =
    let p = err_from_is_err_and c.from_residual.result c.from_residual.ensures.1 in
    rw (p.1, p.2) (first_refused (with_text c.args.name.now) (λ n. with_text c.args.descriptor.now >> λ d. with_entry (NameAndType n d)) c.in_err-name.field-0.0 c.args.pool.now c.put_text.new.pool
    (λ n. then_grows (with_text c.args.descriptor.now) (λ d. with_entry (NameAndType n d)) (entry_grows (Utf8 c.args.descriptor.now)) (λ d. entry_grows (NameAndType n d))) c.in_err-name.ensures.value)

pub returns-in_err-descriptor : goal.returns-in_err-descriptor
unfolding with_member
returns-in_err-descriptor c =
    let p = err_from_is_err_and c.from_residual-in_err-descriptor.result c.from_residual-in_err-descriptor.ensures.1 in
    rw (p.1, p.2) (second_refused (with_text c.args.name.now) (λ n. with_text c.args.descriptor.now >> λ d. with_entry (NameAndType n d)) c.in_err-descriptor.field-0.0 c.args.pool.now c.put_text.new.pool c.put_text-2.new.pool
    c.in_ok-name.name (entry_grows (Utf8 c.args.name.now)) c.in_ok-name.ensures.value
    (first_refused (with_text c.args.descriptor.now) (λ d. with_entry (NameAndType c.in_ok-name.name d)) c.in_err-descriptor.field-0.0 c.put_text.new.pool c.put_text-2.new.pool (λ d. entry_grows (NameAndType c.in_ok-name.name d)) c.in_err-descriptor.ensures.value))

pub returns : goal.returns
unfolding with_member
returns c =
    then_adds (λ i. i) (with_text c.args.name.now) (λ n. with_text c.args.descriptor.now >> λ d. with_entry (NameAndType n d)) c.put.result c.args.pool.now c.put_text.new.pool c.put.new.pool c.in_ok-name.name
    (entry_grows (Utf8 c.args.name.now)) c.in_ok-name.ensures.value
    (then_adds (λ i. i) (with_text c.args.descriptor.now) (λ d. with_entry (NameAndType c.in_ok-name.name d)) c.put.result c.put_text.new.pool c.put_text-2.new.pool c.put.new.pool c.in_ok-descriptor.descriptor
    (entry_grows (Utf8 c.args.descriptor.now)) c.in_ok-descriptor.ensures.value c.put.ensures.value)
