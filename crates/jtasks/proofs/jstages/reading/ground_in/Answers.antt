use Rattle.jtasks.proofs.JstagesProofs.Paths.{are_paths}
use Rattle.jtasks.proofs.JstagesProofs.Wholes.{whole_ground}
use Rattle.jtasks.proofs.jstages.reading.ground_in.Goals as goal

pub returns-clause-whole : goal.returns-clause-whole
returns-clause-whole g c = rw c.in_ok-ground.ensures (whole_ground c.in_ok-job.job c.in_ok-grants.grants)

pub returns-clause-paths : goal.returns-clause-paths
returns-clause-paths g c = rw c.in_ok-ground.ensures (are_paths c.in_ok-job.job c.in_ok-grants.grants c.in_ok-job.ensures.within)
