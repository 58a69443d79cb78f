use Rattle.jparts.specs.declared.jpool.entry.Entry.TheVariants.{Str}
use Rattle.jmove.specs.PoolAdditions.{with_entry, with_text}
use Rattle.jgen.specs.ClassFileItems.{with_string}
use Rattle.jgen.proofs.PoolAdditions.{then_puts}
use Rattle.jgen.proofs.adding.put_string.Goals as goal

pub returns : goal.returns
unfolding with_string
returns c = then_puts 1 1 (with_text c.args.text.now) (λ n. with_entry (Str n)) c.put.result c.args.pool.now c.put_text.new.pool c.put.new.pool c.in_ok-text.text c.in_ok-text.ensures.value c.put.ensures.value
