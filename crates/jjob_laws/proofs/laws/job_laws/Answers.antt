use Rattle.jjob.proofs.JobBounds.{within}
use Rattle.jjob_laws.proofs.Jobs.{stored_again}
use Rattle.jjob_laws.proofs.laws.job_laws.Goals as goal

pub returns-clause-again : goal.returns-clause-again
returns-clause-again c = λ text paths it e names. stored_again text paths it e names

pub returns-clause-small : goal.returns-clause-small
returns-clause-small c = λ text it e. within text it e
