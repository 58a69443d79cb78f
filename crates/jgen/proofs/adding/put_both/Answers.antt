use Rattle.jparts.specs.declared.jpool.entry.Entry.TheVariants.{NameAndType}
use Rattle.jmove.specs.PoolAdditions.{with_entry, with_member, with_text, ◌>>◌}
use Rattle.jgen.proofs.PoolAdditions.{then_puts}
use Rattle.jgen.proofs.adding.put_both.Goals as goal

pub returns : goal.returns
unfolding with_member
returns c =
    let n = c.in_ok-name.name in
    then_puts 1 2 (with_text c.args.name.now) (λ n. with_text c.args.text.now >> λ t. with_entry (NameAndType n t)) c.put.result c.args.pool.now c.put_text.new.pool c.put.new.pool n c.in_ok-name.ensures.value
    (then_puts 1 1 (with_text c.args.text.now) (λ t. with_entry (NameAndType n t)) c.put.result c.put_text.new.pool c.put_text-2.new.pool c.put.new.pool c.in_ok-text.text c.in_ok-text.ensures.value c.put.ensures.value)
