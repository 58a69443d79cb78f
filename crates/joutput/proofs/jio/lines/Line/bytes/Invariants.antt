use Rattle.std.proofs.Common.{◌+◌, ◌≤◌, ◌++◌, List, ℕ, Option, length, take}
use Rattle.joutput.specs.jio.TextOutput.{IsUnderWay}
use Rattle.joutput.proofs.jio.lines.Line.bytes.Given as goal

abbrev pub invariant-loop-byte : goal.invariant-loop-byte
invariant-loop-byte g l = record {
  so_far : (start : Option (List ℕ)) (text : List ℕ) → IsUnderWay start (g.K.Sink.out l.initial.out) l.initial.self text → IsUnderWay start (g.K.Sink.out l.out) l.self (text ++ take l.byte-index l.bytes);
  room : l.self.written + length l.self.pending ≤ l.initial.self.written + length l.initial.self.pending + l.byte-index;
  later : g.K.Sink.faults l.initial.out ≤ g.K.Sink.faults l.out;
}
