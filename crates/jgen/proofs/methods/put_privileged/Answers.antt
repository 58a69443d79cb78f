use Rattle.std.proofs.Common.{◌++◌}
use Rattle.jgen.specs.GeneratedClasses.{privileged_code}
use Rattle.jgen.specs.ClassFileItems.{widths}
use Rattle.jgen.specs.MethodParts.{check_part, handler_part}
use Rattle.jgen.proofs.Rooms.{items_on, then_items}
use Rattle.jgen.proofs.methods.put_privileged.Goals as goal

pub returns-clause-value : goal.returns-clause-value
unfolding widths
returns-clause-value c =
    let begin = check_part 73 40 in
    let more = privileged_code c.args.own.now in
    then_items (begin ++ more) (handler_part 38 18) c.args.draft.now c.put_privileged_call.new.draft c.put_handler.new.draft c.put_handler.result
    (items_on begin more c.args.draft.now c.put_check.new.draft c.put_privileged_call.new.draft c.in_ok-put_check.ensures.value c.in_ok-put_privileged_call.ensures.value) c.put_handler.ensures.value
