use Rattle.std.proofs.Common.{◌≡◌, drop, map}
use Rattle.jjob.specs.JobNames.{again_from, least_again, plain}
use Rattle.jjob.proofs.names.least_again.Given as goal

abbrev pub invariant-loop-next : goal.invariant-loop-next
invariant-loop-next l = again_from l.least (plain l.last) (map plain (drop l.next-index l.more)) ≡ least_again (map plain l.names)
