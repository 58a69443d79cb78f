use Rattle.jstepping.proofs.JcoreProofs.IntermediateMachines.{left_behind, left_machine, numbered, raised_machine, stays_on}
use Rattle.jstepping.proofs.jcore.laws.machine_laws.Goals as goal

pub returns-clause-machine : goal.returns-clause-machine
returns-clause-machine g c = left_machine

pub returns-clause-raised : goal.returns-clause-raised
returns-clause-raised g c = raised_machine c.alike_laws.ensures.made c.alike_laws.ensures.permissions c.alike_laws.ensures.kept

pub returns-clause-behind : goal.returns-clause-behind
returns-clause-behind g c = left_behind c.guest_laws.ensures

pub returns-clause-number : goal.returns-clause-number
returns-clause-number g c = numbered

pub returns-clause-fixed : goal.returns-clause-fixed
returns-clause-fixed g c = stays_on
