use Rattle.std.proofs.Common.{◌≡◌, ◌≤◌, take}
use Rattle.jground.specs.jbase.FaultCauses.{appended}
use Rattle.joutput.specs.jtrace.TraceLines.{lines}
use Rattle.jruntime.proofs.jrun.writing.put_events.Given as goal

abbrev pub invariant-loop-event : goal.invariant-loop-event
invariant-loop-event g l = record {
  written : g.K.Sink.out l.out ≡ appended (g.K.Sink.out l.initial.out) (lines (take l.event-index l.events));
  later : g.K.Sink.faults l.initial.out ≤ g.K.Sink.faults l.out;
}
