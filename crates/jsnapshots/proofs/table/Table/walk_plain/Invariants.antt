use Rattle.std.proofs.Common.{◌≡◌, length}
use Rattle.jdomain.specs.Domains.{has}
use Rattle.jdomain.specs.DomainStacks.{walk}
use Rattle.jsnapshots.specs.SnapshotEntries.{Below}
use Rattle.jsnapshots.specs.WalkEnds.{Grants, place}
use Rattle.jsnapshots.specs.SnapshotMeanings.{things, stack_at}
use Rattle.jsnapshots.proofs.table.Table.walk_plain.Given as goal

-- the older frames decide as all do
abbrev pub invariant-loop-older : goal.invariant-loop-older
invariant-loop-older l = record {
  granted : Grants (has l.domains) l.asked l.granted;
  back : Below (length l.self) l.older;
  same : walk (has l.domains) l.asked (stack_at (things l.self) l.older) ≡ walk (has l.domains) l.asked (stack_at (things l.self) l.fn.number);
}

abbrev pub decreases-loop-older : goal.decreases-loop-older
decreases-loop-older l = place l.older
