use Rattle.std.proofs.Common.{◌≡◌, drop}
use Rattle.std.specs.Str.{bytes_eq}
use Rattle.jmemory.specs.jheap.Heaps.{cells_at}
use Rattle.jruntime.specs.jstate.HeapMeanings.{units_of}
use Rattle.jrows.proofs.jtexts.strings.are_same.Given as goal

abbrev pub invariant-loop-i : goal.invariant-loop-i
invariant-loop-i l =
    bytes_eq (units_of (drop l.i (cells_at l.heap l.a))) (units_of (drop l.i (cells_at l.heap l.b))) ≡ bytes_eq (units_of (cells_at l.heap l.a)) (units_of (cells_at l.heap l.b))
