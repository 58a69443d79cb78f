use Rattle.std.proofs.Common.{◌≤◌, ◌-◌, ◌+◌, length}
use Rattle.jdomain.specs.Domains.{has}
use Rattle.jsnapshots.specs.WalkEnds.{Knows}
use Rattle.jsnapshots.specs.SnapshotMeanings.{things}
use Rattle.jsnapshots.proofs.table.Table.decide_to.Given as goal

-- what was decided so far
abbrev pub invariant-loop-decided : goal.invariant-loop-decided
invariant-loop-decided l = record {
  knows : Knows (has l.domains) l.asked (things l.self) l.decided.items;
  within : length l.decided.items ≤ length l.self;
}

abbrev pub decreases-loop-decided : goal.decreases-loop-decided
decreases-loop-decided l = l.n + 1 - length l.decided.items
