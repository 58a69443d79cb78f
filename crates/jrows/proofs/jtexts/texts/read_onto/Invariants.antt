use Rattle.std.proofs.Common.{◌≡◌, ◌++◌, drop}
use Rattle.jmemory.specs.jheap.Heaps.{cells_at}
use Rattle.jruntime.specs.jstate.HeapMeanings.{units_of}
use Rattle.jrows.proofs.jtexts.texts.read_onto.Given as goal

abbrev pub invariant-loop-i : goal.invariant-loop-i
invariant-loop-i l = l.units.items ++ units_of (drop l.i (cells_at l.heap l.o)) ≡ l.initial.units.items ++ units_of (cells_at l.heap l.o)
