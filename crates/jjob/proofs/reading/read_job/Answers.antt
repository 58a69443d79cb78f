use Rattle.jjob.proofs.JobBounds.{read_within}
use Rattle.jjob.proofs.reading.read_job.Goals as goal

pub returns-in-Ok-clause-within : goal.returns-in-Ok-clause-within
returns-in-Ok-clause-within c = read_within c.in-Ok.text.now c.job_in.result c.job_in.ensures
