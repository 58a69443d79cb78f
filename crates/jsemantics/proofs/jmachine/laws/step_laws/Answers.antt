use Rattle.jsemantics.proofs.JmachineProofs.RowApplication.{applied_law}
use Rattle.jsemantics.proofs.JmachineProofs.RunEquivalence.{run_law}
use Rattle.jsemantics.proofs.JmachineProofs.StepIndependence.{step_law}
use Rattle.jsemantics.proofs.jmachine.laws.step_laws.Goals as goal

pub returns-clause-applied : goal.returns-clause-applied
returns-clause-applied g c = applied_law _ _ _ _

pub returns-clause-step : goal.returns-clause-step
returns-clause-step g c = step_law _ _ _ _

pub returns-clause-run : goal.returns-clause-run
returns-clause-run g c = run_law _ _ _ _
