use Rattle.std.proofs.Common.{ap, length, ◌∙◌}
use Rattle.jready.proofs.InstructionNumbers.{puts_done, puts_more}
use Rattle.jready.proofs.handlers.put_handlers.Goals as goal

pub loop-handler-preserved : goal.loop-handler-preserved
loop-handler-preserved c =
    puts_more c.args.ops.now c.args.handlers.now c.args.rows.now c.loop-handler.rows c.push.new.self c.loop-handler.handler-index _ c.row_of.result
    c.loop-handler.invariant c.loop-handler-test.true c.row_of.ensures c.in_ok-push.ensures.ok

pub returns-clause-there : goal.returns-clause-there
returns-clause-there c =
    (puts_done c.args.ops.now c.args.handlers.now c.args.rows.now c.loop-handler.rows c.loop-handler.handler-index c.in_ok-first.first c.in_ok-count.count
    c.loop-handler.invariant c.loop-handler-test.false
    (c.in_ok-first.ensures ∙ ap length c.as_slice.ensures) c.in_ok-count.ensures).there

pub returns-clause-are : goal.returns-clause-are
returns-clause-are c =
    (puts_done c.args.ops.now c.args.handlers.now c.args.rows.now c.loop-handler.rows c.loop-handler.handler-index c.in_ok-first.first c.in_ok-count.count
    c.loop-handler.invariant c.loop-handler-test.false
    (c.in_ok-first.ensures ∙ ap length c.as_slice.ensures) c.in_ok-count.ensures).are
