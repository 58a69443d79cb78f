use Rattle.std.proofs.Common.{◌≡◌, ◌≤◌, length, take}
use Rattle.jdomain.specs.Domains.{has}
use Rattle.jdomain.specs.DomainStacks.{walk}
use Rattle.jsnapshots.specs.WalkEnds.{Grants, Knows}
use Rattle.jsnapshots.specs.SnapshotMeanings.{pushed, things, stack_at, stack_of}
use Rattle.jsnapshots.proofs.table.Table.walk.Given as goal

-- the frames that are left decide as all do
abbrev pub invariant-loop-i : goal.invariant-loop-i
invariant-loop-i l = record {
  knows : Knows (has l.domains) l.asked (things l.self) l.decided.items;
  within : length l.decided.items ≤ length l.self;
  granted : Grants (has l.domains) l.asked l.granted;
  in_range : l.i ≤ length l.marks;
  same : walk (has l.domains) l.asked (pushed (things l.self) (take l.i l.marks) (stack_at (things l.self) l.inherited)) ≡ walk (has l.domains) l.asked (stack_of (things l.self) l.marks l.inherited);
}

abbrev pub decreases-loop-i : goal.decreases-loop-i
decreases-loop-i l = l.i
