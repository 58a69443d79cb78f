use Rattle.std.proofs.Common.{◌∙◌, ◌++◌, ap, refl}
use Rattle.jmemory.specs.jheap.Heaps.{cells_at}
use Rattle.jruntime.specs.jstate.HeapMeanings.{store_by, units_of}
use Rattle.jrows.proofs.JtextsProofs.StringRows.{concat_all, concat_null, concat_other, concat_stuck}
use Rattle.jrows.proofs.jtexts.strings.concat.Goals as goal

pub returns-then-is_null-clause-row : goal.returns-then-is_null-clause-row
returns-then-is_null-clause-row g c p shapes things constants =
    concat_null _ (store_by p shapes things constants c.args.heap.now) c.args.text _ c.args.more c.if-is_null.ensures refl

pub returns-in_default-clause-row : goal.returns-in_default-clause-row
returns-in_default-clause-row g c p shapes things constants =
    concat_stuck _ c.heap_laws.ensures.each c.args.heap.now c.args.text c.args.more p shapes things constants c.if-is_null.ensures c.in_default.ensures

pub returns-in_default-text_of-clause-row : goal.returns-in_default-text_of-clause-row
returns-in_default-text_of-clause-row g c p shapes things constants =
    concat_other _ c.heap_laws.ensures.each c.args.heap.now c.args.text c.args.more p shapes things constants c.in-Some.o c.if-is_null.ensures c.in-Some.ensures c.in_default-text_of.ensures

pub returns-clause-row : goal.returns-clause-row
returns-clause-row g c =
    concat_all _ _ c.heap_laws.ensures.each c.args.heap.now c.text_made.new.heap c.args.text c.args.more c.text_made.result c.in-Some.o c.in-Some-text_of.n
    c.as_slice.result.now c.read_onto.new.units.items c.read_onto-2.new.units.items
    c.if-is_null.ensures c.in-Some.ensures c.in-Some-text_of.ensures c.as_slice.ensures.value c.in_ok-read_onto-2.ensures
    (c.in_ok-read_onto.ensures ∙ ap (λ us. us ++ units_of (cells_at c.args.heap.now c.in-Some.o)) c.new-units.ensures.items) c.text_made.ensures.row
