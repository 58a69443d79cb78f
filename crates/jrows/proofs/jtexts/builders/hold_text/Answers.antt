use Rattle.std.proofs.Common.{◌∙◌, ◌++◌, ap}
use Rattle.jmemory.specs.jheap.Heaps.{cells_at}
use Rattle.jruntime.specs.jstate.HeapMeanings.{units_of}
use Rattle.jrows.proofs.JtextsProofs.BuilderRows.{itself, text_all, text_other, text_stuck}
use Rattle.jrows.proofs.jtexts.builders.hold_text.Goals as goal

pub append_units-requires-clause-builder : goal.append_units-requires-clause-builder
append_units-requires-clause-builder g c = itself c.args.heap.now c.args.builder c.in-Some.b c.in-Some.ensures

pub append_units-requires-clause-cell : goal.append_units-requires-clause-cell
append_units-requires-clause-cell g c = c.requires.cell c.in-Some.b c.in-Some.ensures

pub returns-in_default-clause-row : goal.returns-in_default-clause-row
returns-in_default-clause-row g c p shapes things constants =
    text_stuck _ c.heap_laws.ensures.each c.args.heap.now p shapes things constants c.args.text c.args.builder c.requires.some c.in_default.ensures

pub returns-in_default-text_of-clause-row : goal.returns-in_default-text_of-clause-row
returns-in_default-text_of-clause-row g c p shapes things constants =
    text_other _ c.heap_laws.ensures.each c.args.heap.now p shapes things constants c.args.text c.args.builder c.in-Some.b c.requires.some c.in-Some.ensures
    c.in_default-text_of.ensures

pub returns-clause-row : goal.returns-clause-row
returns-clause-row g c =
    text_all _ _ c.heap_laws.ensures.each c.args.heap.now c.append_units.new.heap c.args.text c.args.builder c.append_units.result c.in-Some.b
    c.in-Some-text_of.o
    c.as_slice.result.now c.requires.some c.in-Some.ensures c.in-Some-text_of.ensures
    (c.as_slice.ensures.value ∙ c.in_ok-read_onto.ensures ∙ ap (λ us. us ++ units_of (cells_at c.args.heap.now c.in-Some-text_of.o)) c.new-units.ensures.items)
    c.append_units.ensures.row
