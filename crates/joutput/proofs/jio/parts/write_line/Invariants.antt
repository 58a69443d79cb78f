use Rattle.std.proofs.Common.{◌≡◌, ◌+◌, ◌≤◌, ◌++◌, List, ℕ, length, drop}
use Rattle.joutput.specs.jio.TextOutput.{IsUnderWay}
use Rattle.joutput.specs.jio.LineParts.{line_of, room_of}
use Rattle.joutput.proofs.jio.parts.write_line.Given as goal

abbrev pub invariant-loop-part : goal.invariant-loop-part
invariant-loop-part g l = record {
  so_far : (done : List ℕ) × IsUnderWay (g.K.Sink.out l.initial.out) (g.K.Sink.out l.out) l.line done × (done ++ line_of (drop l.part-index l.parts) ≡ line_of l.parts);
  room : l.line.written + length l.line.pending + room_of (drop l.part-index l.parts) ≤ room_of l.parts;
  later : g.K.Sink.faults l.initial.out ≤ g.K.Sink.faults l.out;
}
