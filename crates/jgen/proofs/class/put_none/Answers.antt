use Rattle.std.specs.Int.{w16, to_be_bytes}
use Rattle.jgen.specs.ClassFileItems.{with_item, with_items}
use Rattle.jgen.proofs.PoolAdditions.{bytes_put}
use Rattle.jgen.proofs.class.put_none.Goals as goal

pub returns : goal.returns
unfolding with_item with_items
returns c = bytes_put c.args.draft.now c.put_u16.new.out (to_be_bytes w16 0) c.put_u16.result c.put_u16.ensures
