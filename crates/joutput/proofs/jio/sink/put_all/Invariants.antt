use Rattle.std.proofs.Common.{◌≡◌, ◌-◌, ◌≤◌, length, take}
use Rattle.jground.specs.jbase.FaultCauses.{appended}
use Rattle.joutput.proofs.jio.sink.put_all.Given as goal

abbrev pub invariant-loop-written : goal.invariant-loop-written
invariant-loop-written g l = record {
  within : l.written ≤ length l.piece;
  so_far : g.K.Sink.out l.out ≡ appended (g.K.Sink.out l.initial.out) (take l.written l.piece);
  later : g.K.Sink.faults l.initial.out ≤ g.K.Sink.faults l.out;
}

abbrev pub decreases-loop-written : goal.decreases-loop-written
decreases-loop-written g l = length l.initial.piece - l.written
