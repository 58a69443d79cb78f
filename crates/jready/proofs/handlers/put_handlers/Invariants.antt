use Rattle.jready.proofs.InstructionNumbers.{Puts}
use Rattle.jready.proofs.handlers.put_handlers.Given as goal

abbrev pub invariant-loop-handler : goal.invariant-loop-handler
invariant-loop-handler l = Puts l.ops l.handlers l.fn.rows l.rows l.handler-index
