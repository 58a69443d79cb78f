use Rattle.std.proofs.Common.{◌∙◌}
use Rattle.jrows.proofs.JtextsProofs.BuilderRows.{itself, string_all, string_stuck}
use Rattle.jrows.proofs.jtexts.builders.built_text.Goals as goal

pub units_of-requires-clause-builder : goal.units_of-requires-clause-builder
units_of-requires-clause-builder g c = itself c.args.heap.now c.args.builder c.in-Some.b c.in-Some.ensures

pub units_of-requires-clause-cell : goal.units_of-requires-clause-cell
units_of-requires-clause-cell g c = c.requires.cell c.in-Some.b c.in-Some.ensures

pub returns-in_default-clause-row : goal.returns-in_default-clause-row
returns-in_default-clause-row g c p shapes things constants =
    string_stuck _ c.heap_laws.ensures.each c.args.heap.now p shapes things constants c.args.builder c.in_default.ensures

pub returns-clause-row : goal.returns-clause-row
returns-clause-row g c =
    string_all _ _ c.heap_laws.ensures.each c.args.heap.now c.text_made.new.heap c.args.builder c.text_made.result c.in-Some.b c.as_slice.result.now
    c.in-Some.ensures
    (c.as_slice.ensures.value ∙ c.in_ok-units.ensures) c.text_made.ensures.row
