-- Each code source has its list of permissions.
use Rattle.std.proofs.Common.{◌≡◌, List, length}
use Rattle.std.proofs.lemmas.List.{length-map}
use Rattle.jpolicy.specs.declared.grant.Grant.{Grant}
use Rattle.jjob.specs.declared.job.Job.{Job}
use Rattle.jtasks.specs.jstages.JobPlans.{ground_of}

pub whole_ground : (job : Job) (grants : List Grant) → length (ground_of job grants).domains ≡ length (ground_of job grants).sources
unfolding ground_of
whole_ground job grants = length-map _ _
