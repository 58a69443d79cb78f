use Rattle.std.proofs.Common.{◌≡◌, drop}
use Rattle.jjob.specs.JobNames.{differ_from, neighbours_differ}
use Rattle.jjob.proofs.digests.neighbours_differ.Given as goal

abbrev pub invariant-loop-next : goal.invariant-loop-next
invariant-loop-next l = differ_from l.last (drop l.next-index l.more) ≡ neighbours_differ l.numbers
