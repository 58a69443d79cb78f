use Rattle.jmove.specs.PoolAdditions.{with_class}
use Rattle.jgen.specs.ClassFileItems.{with_item}
use Rattle.jgen.proofs.PoolAdditions.{index_put}
use Rattle.jgen.proofs.laying.put_class_index.Goals as goal

pub returns-clause-value : goal.returns-clause-value
unfolding with_item
returns-clause-value c = index_put 2 (with_class c.args.name.now) c.in_ok-i.i c.args.draft.now c.put_class.new.pool c.put_u16.new.out c.put_u16.result c.in_ok-i.ensures c.put_u16.ensures
