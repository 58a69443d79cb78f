use Rattle.std.proofs.Common.{length}
use Rattle.jgen.specs.ClassFileItems.{widths}
use Rattle.jgen.proofs.MethodParts.{end_room}
use Rattle.jgen.proofs.class.put_main_end.Goals as goal

pub put_pieces-requires : goal.put_pieces-requires
unfolding widths
put_pieces-requires c = end_room (length c.args.draft.now.pool) c.requires

pub returns : goal.returns
unfolding widths
returns c = c.put_pieces.ensures.value
