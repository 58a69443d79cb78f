use Rattle.std.proofs.Common.{length}
use Rattle.jgen.specs.ClassFileItems.{most_of, widths}
use Rattle.jgen.proofs.MethodParts.{check_room}
use Rattle.jgen.proofs.methods.put_check.Goals as goal

pub put_pieces-requires : goal.put_pieces-requires
unfolding widths
put_pieces-requires c = check_room c.args.attribute c.args.code (length c.args.draft.now.pool) c.requires

pub returns-clause-value : goal.returns-clause-value
unfolding widths
returns-clause-value c = c.put_pieces.ensures.value

pub returns-clause-few : goal.returns-clause-few
unfolding most_of
returns-clause-few c = c.put_pieces.ensures.few
