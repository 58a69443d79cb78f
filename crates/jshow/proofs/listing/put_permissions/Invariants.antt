use Rattle.std.proofs.Common.{◌≡◌, ◌≤◌, take}
use Rattle.jground.specs.jbase.FaultCauses.{appended}
use Rattle.jshow.specs.Listings.{permission_lines}
use Rattle.jshow.proofs.listing.put_permissions.Given as goal

abbrev pub invariant-loop-permission : goal.invariant-loop-permission
invariant-loop-permission g l = record {
  written : g.K.Sink.out l.out ≡ appended (g.K.Sink.out l.initial.out) (permission_lines (take l.permission-index l.permissions));
  later : g.K.Sink.faults l.initial.out ≤ g.K.Sink.faults l.out;
}
