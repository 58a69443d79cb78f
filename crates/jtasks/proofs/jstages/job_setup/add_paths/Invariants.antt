use Rattle.std.proofs.Common.{◌≡◌, ◌++◌}
use Rattle.jtasks.specs.jstages.JobPlans.{paths_with}
use Rattle.jtasks.proofs.jstages.job_setup.add_paths.Given as goal

abbrev pub invariant-loop-path : goal.invariant-loop-path
invariant-loop-path l = l.classes ≡ l.fn.classes ++ paths_with l.domain l.yielded
