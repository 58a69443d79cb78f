use Rattle.jgen.specs.ClassFileItems.{with_method, with_item}
use Rattle.jgen.proofs.PoolAdditions.{index_put}
use Rattle.jgen.proofs.laying.put_method_index.Goals as goal

pub returns-clause-value : goal.returns-clause-value
unfolding with_item
returns-clause-value c = index_put 6 (with_method c.args.class.now c.args.name.now c.args.text.now) c.in_ok-i.i c.args.draft.now c.put_method.new.pool c.put_u16.new.out c.put_u16.result c.in_ok-i.ensures c.put_u16.ensures
