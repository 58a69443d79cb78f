use Rattle.std.proofs.Common.{◌+◌, ◌∙◌, ap, arith, drop, length, sym}
use Rattle.jmemory.specs.jheap.Heaps.{Heaped, cells_at}
use Rattle.jrows.specs.jtexts.HeapTexts.{written}
use Rattle.jrows.proofs.JtextsProofs.TextWrites.{as_many, written_next}
use Rattle.jrows.proofs.jtexts.making.write_units.Goals as goal

pub loop-unit-preserved : goal.loop-unit-preserved
loop-unit-preserved c = record {
  at = omega (arith, c.loop-unit.invariant.at);
  many = ap (λ (g : Heaped). length (cells_at g c.args.o)) c.set_unit.ensures ∙ as_many c.loop-unit.heap c.args.o c.loop-unit.i _ ∙ c.loop-unit.invariant.many;
  on =
      ap (λ (g : Heaped). written g c.args.o (c.loop-unit.i + 1) (drop (c.loop-unit.unit-index + 1) c.args.units.now)) c.set_unit.ensures
      ∙ sym (written_next c.loop-unit.heap c.args.o c.loop-unit.i c.loop-unit.unit-index _ c.args.units.now c.loop-unit-test.true) ∙ c.loop-unit.invariant.on;
}
