use Rattle.std.proofs.Common.{arith}
use Rattle.jmemory.specs.jheap.Heaps.{cells_at}
use Rattle.jrows.proofs.JtextsProofs.Units.{read_on}
use Rattle.jrows.proofs.jtexts.texts.read_onto.Goals as goal

pub loop-i-preserved : goal.loop-i-preserved
loop-i-preserved c =
    rw (c.in_ok-push.ensures.items, c.unit.ensures)
    (read_on c.loop-i.units.items _ (cells_at c.args.heap.now c.args.o) c.loop-i.i (omega (arith, c.loop-i-test.true, c.len-i-end.ensures)) c.loop-i.invariant)
