use Rattle.std.proofs.Common.{◌≡◌, ◌++◌, drop}
use Rattle.std.specs.Prelude.{IsTrue}
use Rattle.jground.specs.jformat.StatefulFormats.{spell_from, fits_from}
use Rattle.jground.proofs.jformat.write.put_by.Given as goal

abbrev pub invariant-loop-item : goal.invariant-loop-item
invariant-loop-item g l = record {
  fits : IsTrue (fits_from (g.W.StateWriter.fits l.writer) (g.W.StateWriter.goes_to l.writer) l.state (drop l.item-index l.items));
  so_far : l.out ++ spell_from (g.W.StateWriter.spells l.writer) (g.W.StateWriter.goes_to l.writer) l.state (drop l.item-index l.items) ≡ l.fn.out ++ spell_from (g.W.StateWriter.spells l.writer) (g.W.StateWriter.goes_to l.writer) l.fn.first l.items;
}
