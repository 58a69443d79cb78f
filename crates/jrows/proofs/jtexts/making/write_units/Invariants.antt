use Rattle.std.proofs.Common.{◌≡◌, drop, length}
use Rattle.jmemory.specs.jheap.Heaps.{cells_at}
use Rattle.jrows.specs.jtexts.HeapTexts.{written}
use Rattle.jrows.proofs.jtexts.making.write_units.Given as goal

abbrev pub invariant-loop-unit : goal.invariant-loop-unit
invariant-loop-unit l = record {
  at : l.i ≡ l.unit-index;
  many : length (cells_at l.heap l.o) ≡ length l.units;
  on : written l.heap l.o l.i (drop l.unit-index l.units) ≡ written l.initial.heap l.o 0 l.units;
}
