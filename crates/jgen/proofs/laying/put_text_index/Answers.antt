use Rattle.jmove.specs.PoolAdditions.{with_text}
use Rattle.jgen.specs.ClassFileItems.{with_item}
use Rattle.jgen.proofs.PoolAdditions.{index_put}
use Rattle.jgen.proofs.laying.put_text_index.Goals as goal

pub returns-clause-value : goal.returns-clause-value
unfolding with_item
returns-clause-value c = index_put 1 (with_text c.args.text.now) c.in_ok-i.i c.args.draft.now c.put_text.new.pool c.put_u16.new.out c.put_u16.result c.in_ok-i.ensures.value c.put_u16.ensures
