use Rattle.jparts.specs.declared.jpool.entry.Entry.TheVariants.{Class}
use Rattle.jmove.specs.PoolAdditions.{with_class, with_entry, with_text}
use Rattle.jgen.proofs.PoolAdditions.{then_puts}
use Rattle.jgen.proofs.adding.put_class.Goals as goal

pub returns : goal.returns
unfolding with_class
returns c = then_puts 1 1 (with_text c.args.name.now) (λ n. with_entry (Class n)) c.put.result c.args.pool.now c.put_text.new.pool c.put.new.pool c.in_ok-text.text c.in_ok-text.ensures.value c.put.ensures.value
