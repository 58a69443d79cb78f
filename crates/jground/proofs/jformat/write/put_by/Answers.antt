use Rattle.std.proofs.Common.{arith}
use Rattle.jground.proofs.JformatProofs.ReadingLoops.{spell_next, spell_end, fits_here}
use Rattle.jground.proofs.jformat.write.put_by.Goals as goal

pub write-requires : goal.write-requires
write-requires g c = (fits_here (g.W.StateWriter.fits c.args.writer.now) (g.W.StateWriter.goes_to c.args.writer.now) c.loop-item.state c.args.items.now c.loop-item.item-index c.item-item.result (omega arith) c.item-item.is c.loop-item.invariant.fits).0

pub next-state-requires : goal.next-state-requires
next-state-requires g c = (fits_here (g.W.StateWriter.fits c.args.writer.now) (g.W.StateWriter.goes_to c.args.writer.now) c.loop-item.state c.args.items.now c.loop-item.item-index c.item-item.result (omega arith) c.item-item.is c.loop-item.invariant.fits).0

pub loop-item-preserved : goal.loop-item-preserved
loop-item-preserved g c = record {
  fits = rw c.next-state.ensures ((fits_here (g.W.StateWriter.fits c.args.writer.now) (g.W.StateWriter.goes_to c.args.writer.now) c.loop-item.state c.args.items.now c.loop-item.item-index c.item-item.result (omega arith) c.item-item.is c.loop-item.invariant.fits).1);
  so_far = rw c.next-state.ensures (spell_next (g.W.StateWriter.spells c.args.writer.now) (g.W.StateWriter.goes_to c.args.writer.now) c.loop-item.state c.args.items.now c.loop-item.item-index c.item-item.result c.loop-item.out _ _ (omega arith) c.item-item.is c.in_ok-write.ensures c.loop-item.invariant.so_far);
}

pub returns : goal.returns
returns g c = spell_end (g.W.StateWriter.spells c.args.writer.now) (g.W.StateWriter.goes_to c.args.writer.now) c.loop-item.state c.args.items.now c.loop-item.item-index _ _ (omega arith) c.loop-item.invariant.so_far
