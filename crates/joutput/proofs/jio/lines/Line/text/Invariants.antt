use Rattle.std.proofs.Common.{◌+◌, ◌*◌, ◌≤◌, ◌++◌, List, ℕ, Option, length, take}
use Rattle.joutput.specs.jio.TextOutput.{IsUnderWay, written}
use Rattle.joutput.proofs.jio.lines.Line.text.Given as goal

abbrev pub invariant-loop-unit : goal.invariant-loop-unit
invariant-loop-unit g l = record {
  so_far : (start : Option (List ℕ)) (text : List ℕ) → IsUnderWay start (g.K.Sink.out l.initial.out) l.initial.self text → IsUnderWay start (g.K.Sink.out l.out) l.self (text ++ written (take l.unit-index l.units));
  room : l.self.written + length l.self.pending ≤ l.initial.self.written + length l.initial.self.pending + 6 * l.unit-index;
  later : g.K.Sink.faults l.initial.out ≤ g.K.Sink.faults l.out;
}
