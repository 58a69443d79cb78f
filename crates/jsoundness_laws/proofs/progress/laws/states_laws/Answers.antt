use Rattle.jsoundness_laws.proofs.ProgressProofs.InitialState.{main_has_code, opens_typed}
use Rattle.jsoundness_laws.proofs.ProgressProofs.TypedRuns.{runs_typed}
use Rattle.jsoundness_laws.proofs.ProgressProofs.StepSafety.{states_step}
use Rattle.jsoundness_laws.proofs.progress.laws.states_laws.Goals as goal

pub returns-clause-step : goal.returns-clause-step
returns-clause-step g c = states_step _ _

pub returns-clause-opening : goal.returns-clause-opening
returns-clause-opening g c = opens_typed _ _

pub returns-clause-run : goal.returns-clause-run
returns-clause-run g c = runs_typed _ _

pub returns-clause-coded : goal.returns-clause-coded
returns-clause-coded g c = main_has_code
