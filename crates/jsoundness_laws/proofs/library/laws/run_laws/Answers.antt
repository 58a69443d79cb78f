use Rattle.jsoundness_laws.proofs.LibraryProofs.RunSelection.{action_says, action_users, interface_raises, run_says, run_users}
use Rattle.jsoundness_laws.proofs.library.laws.run_laws.Goals as goal

pub returns-clause-action : goal.returns-clause-action
returns-clause-action g c = action_users _

pub returns-clause-thread : goal.returns-clause-thread
returns-clause-thread g c = run_users _

pub returns-clause-raises : goal.returns-clause-raises
returns-clause-raises g c = interface_raises _

pub returns-clause-thread_says : goal.returns-clause-thread_says
returns-clause-thread_says g c = run_says

pub returns-clause-action_says : goal.returns-clause-action_says
returns-clause-action_says g c = action_says
