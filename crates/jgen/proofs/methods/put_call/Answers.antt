use Rattle.std.proofs.Common.{length}
use Rattle.jgen.specs.ClassFileItems.{most_of, widths}
use Rattle.jgen.proofs.MethodParts.{call_room}
use Rattle.jgen.proofs.methods.put_call.Goals as goal

pub put_pieces-requires : goal.put_pieces-requires
unfolding widths
put_pieces-requires c = call_room c.args.next.now (length c.args.draft.now.pool) c.requires.short c.requires.room

pub returns-clause-value : goal.returns-clause-value
unfolding widths
returns-clause-value c = c.put_pieces.ensures.value

pub returns-clause-few : goal.returns-clause-few
unfolding most_of
returns-clause-few c = c.put_pieces.ensures.few
