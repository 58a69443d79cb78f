use Rattle.jgen.specs.ClassFileItems.{with_string, with_item}
use Rattle.jgen.proofs.PoolAdditions.{small_put}
use Rattle.jgen.proofs.laying.put_string_index.Goals as goal

pub returns-clause-value : goal.returns-clause-value
unfolding with_item
returns-clause-value c = small_put 2 (with_string c.args.text.now) c.in_ok-i.i c.args.draft.now c.put_string.new.pool c.put_u8.new.out c.put_u8.result c.in_ok-i.ensures c.put_u8.ensures
