use Rattle.jsemantics.proofs.JmachineProofs.StackMoves.{local_law, stack_law}
use Rattle.jsemantics.proofs.JmachineProofs.Straights.{jump_law, simple_law, switch_law, throw_law}
use Rattle.jsemantics.proofs.JmachineProofs.Takes.{takes_law}
use Rattle.jsemantics.proofs.jmachine.laws.straight_laws.Goals as goal

pub returns-clause-takes : goal.returns-clause-takes
returns-clause-takes g c = takes_law _ _

pub returns-clause-simple : goal.returns-clause-simple
returns-clause-simple g c = simple_law _ _ _ _

pub returns-clause-jump : goal.returns-clause-jump
returns-clause-jump g c = jump_law _ _ _ _

pub returns-clause-switch : goal.returns-clause-switch
returns-clause-switch g c = switch_law _ _ _ _

pub returns-clause-throw : goal.returns-clause-throw
returns-clause-throw g c = throw_law _ _ _ _

pub returns-clause-local : goal.returns-clause-local
returns-clause-local g c = local_law _ _

pub returns-clause-stack : goal.returns-clause-stack
returns-clause-stack g c = stack_law _ _
