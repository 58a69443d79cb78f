use Rattle.jparts.specs.declared.jpool.entry.Entry.TheVariants.{Field}
use Rattle.jmove.specs.PoolAdditions.{with_class, with_entry, with_member, ◌>>◌}
use Rattle.jgen.specs.ClassFileItems.{with_field}
use Rattle.jgen.proofs.PoolAdditions.{then_puts}
use Rattle.jgen.proofs.adding.put_field.Goals as goal

pub returns : goal.returns
unfolding with_field
returns c =
    let k = c.in_ok-class.class in
    then_puts 2 4 (with_class c.args.class.now) (λ k. with_member c.args.name.now c.args.text.now >> λ b. with_entry (Field k b)) c.put.result c.args.pool.now c.put_class.new.pool c.put.new.pool k c.in_ok-class.ensures
    (then_puts 3 1 (with_member c.args.name.now c.args.text.now) (λ b. with_entry (Field k b)) c.put.result c.put_class.new.pool c.put_both.new.pool c.put.new.pool c.in_ok-both.both c.in_ok-both.ensures c.put.ensures.value)
