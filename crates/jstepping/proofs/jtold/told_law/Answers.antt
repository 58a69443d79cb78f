use Rattle.jstepping.proofs.JtoldProofs.MessageReceivers.{tells}
use Rattle.jstepping.proofs.jtold.told_law.Goals as goal

pub returns : goal.returns
returns c = tells c.call_law.ensures c.name_law.ensures c.selection_law.ensures c.heap_laws.ensures.each
