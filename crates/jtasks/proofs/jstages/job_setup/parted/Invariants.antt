use Rattle.std.proofs.Common.{◌≡◌, ◌+◌, ◌≤◌, length}
use Rattle.std.specs.Vec.Iter.{into_iter_items}
use Rattle.jjob.specs.JobLimits.{most_codes}
use Rattle.jtasks.specs.jstages.JobPlans.{paths_from, urls_of}
use Rattle.jtasks.proofs.jstages.job_setup.parted.Given as goal

abbrev pub invariant-loop-one : goal.invariant-loop-one
invariant-loop-one l = record {
  urls : l.urls ≡ urls_of l.yielded;
  classes : l.classes ≡ paths_from 0 l.yielded;
  count : l.domain ≡ length l.yielded;
  room : l.domain + length (into_iter_items l.one-iterator) ≤ most_codes;
}
