use Rattle.std.proofs.Common.{refl}
use Rattle.jready.proofs.InstructionNumbers.{handler_is}
use Rattle.jready.proofs.handlers.row_of.Goals as goal

pub returns : goal.returns
returns c = handler_is c.args.ops.now c.args.handler.now _ c.count_before.ensures c.count_before-2.ensures c.number_of.ensures refl
