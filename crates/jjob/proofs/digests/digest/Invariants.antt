use Rattle.std.proofs.Common.{◌≡◌, drop}
use Rattle.jjob.specs.JobNames.{digest_from}
use Rattle.jjob.proofs.digests.digest.Given as goal

abbrev pub invariant-loop-b : goal.invariant-loop-b
invariant-loop-b l = digest_from l.sum (drop l.b-index l.name) ≡ digest_from 0 l.name
