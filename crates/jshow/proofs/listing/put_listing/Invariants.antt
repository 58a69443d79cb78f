use Rattle.std.proofs.Common.{◌≤◌}
use Rattle.jshow.proofs.Domains.{IsWent}
use Rattle.jshow.proofs.listing.put_listing.Given as goal

abbrev pub invariant-loop-at : goal.invariant-loop-at
invariant-loop-at g l = record {
  written : IsWent (g.K.Sink.out l.initial.out) (g.K.Sink.out l.out) l.at l.sources l.domains;
  later : g.K.Sink.faults l.initial.out ≤ g.K.Sink.faults l.out;
}
