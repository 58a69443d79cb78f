use Rattle.jserving.proofs.JinvokeProofs.InvokeSteps.{steps_at, steps_library, steps_user}
use Rattle.jserving.proofs.jinvoke.laws.step_laws.Goals as goal

pub returns-clause-at : goal.returns-clause-at
returns-clause-at g c = steps_at

pub returns-clause-user : goal.returns-clause-user
returns-clause-user g c = steps_user

pub returns-clause-library : goal.returns-clause-library
returns-clause-library g c = steps_library
