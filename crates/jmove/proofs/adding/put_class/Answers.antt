use Rattle.std.proofs.lemmas.Result.{err_from_is_err_and}
use Rattle.jparts.specs.declared.jpool.entry.Entry.TheVariants.{Class, Utf8}
use Rattle.jmove.specs.PoolAdditions.{with_class, with_entry, with_text}
use Rattle.jmove.proofs.PoolGrowth.{entry_grows, first_refused, then_adds}
use Rattle.jmove.proofs.adding.put_class.Goals as goal

pub returns-in_err-text : goal.returns-in_err-text
unfolding with_class
returns-in_err-text c =
    let p = err_from_is_err_and c.from_residual.result c.from_residual.ensures.1 in
    rw (p.1, p.2) (first_refused (with_text c.args.name.now) (λ n. with_entry (Class n)) c.in_err-text.field-0.0 c.args.pool.now c.put_text.new.pool (λ n. entry_grows (Class n)) c.in_err-text.ensures.value)

pub returns : goal.returns
unfolding with_class
returns c =
    then_adds (λ i. i) (with_text c.args.name.now) (λ n. with_entry (Class n)) c.put.result c.args.pool.now c.put_text.new.pool c.put.new.pool c.in_ok-text.text (entry_grows (Utf8 c.args.name.now)) c.in_ok-text.ensures.value c.put.ensures.value
