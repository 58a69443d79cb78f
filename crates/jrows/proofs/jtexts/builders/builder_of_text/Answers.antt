use Rattle.std.proofs.Common.{sym}
use Rattle.jruntime.specs.jstate.HeapMeanings.{store_by}
use Rattle.jrows.proofs.JtextsProofs.BuilderRows.{text_null}
use Rattle.jrows.proofs.jtexts.builders.builder_of_text.Goals as goal

pub hold_text-requires-clause-some : goal.hold_text-requires-clause-some
hold_text-requires-clause-some g c = sym c.if-is_null.ensures

pub returns-then-is_null-clause-row : goal.returns-then-is_null-clause-row
returns-then-is_null-clause-row g c p shapes things constants =
    rw c.no_text.ensures (text_null _ (store_by p shapes things constants c.args.heap.now) c.args.text c.args.builder c.if-is_null.ensures)
