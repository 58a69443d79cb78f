use Rattle.jsemantics.proofs.JmachineProofs.CallRows.{call_law, init_law}
use Rattle.jsemantics.proofs.jmachine.laws.call_laws.Goals as goal

pub returns-clause-init : goal.returns-clause-init
returns-clause-init g c = init_law _ _

pub returns-clause-target : goal.returns-clause-target
returns-clause-target g c = call_law _ _
