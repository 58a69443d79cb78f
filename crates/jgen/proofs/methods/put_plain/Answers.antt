use Rattle.std.proofs.Common.{◌++◌}
use Rattle.jgen.specs.GeneratedClasses.{call_code}
use Rattle.jgen.specs.ClassFileItems.{widths}
use Rattle.jgen.specs.MethodParts.{check_part, handler_part}
use Rattle.jgen.proofs.Rooms.{items_on, then_items}
use Rattle.jgen.proofs.methods.put_plain.Goals as goal

pub returns-clause-value : goal.returns-clause-value
unfolding widths
returns-clause-value c =
    let begin = check_part 61 28 in
    let more = call_code c.args.next.now in
    then_items (begin ++ more) (handler_part 26 6) c.args.draft.now c.put_call.new.draft c.put_handler.new.draft c.put_handler.result
    (items_on begin more c.args.draft.now c.put_check.new.draft c.put_call.new.draft c.in_ok-put_check.ensures.value c.in_ok-put_call.ensures.value) c.put_handler.ensures.value
