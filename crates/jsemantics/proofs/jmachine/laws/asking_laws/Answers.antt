use Rattle.jsemantics.proofs.JmachineProofs.StepAsks.{asks_law}
use Rattle.jsemantics.proofs.JmachineProofs.RunEquivalence.{opening_law, run_law}
use Rattle.jsemantics.proofs.JmachineProofs.StepIndependence.{answer_law, step_at_law, step_law, step_unasked_law}
use Rattle.jsemantics.proofs.jmachine.laws.asking_laws.Goals as goal

pub returns-clause-asks : goal.returns-clause-asks
returns-clause-asks g c = asks_law _ _ _ _

pub returns-clause-at : goal.returns-clause-at
returns-clause-at g c = step_at_law _ _ _ _

pub returns-clause-unasked : goal.returns-clause-unasked
returns-clause-unasked g c = step_unasked_law _ _ _ _

pub returns-clause-answers : goal.returns-clause-answers
returns-clause-answers g c = answer_law _ _ _ _

pub returns-clause-step : goal.returns-clause-step
returns-clause-step g c = step_law _ _ _ _

pub returns-clause-run : goal.returns-clause-run
returns-clause-run g c = run_law _ _ _ _

pub returns-clause-opening : goal.returns-clause-opening
returns-clause-opening g c = opening_law _ _ _ _
