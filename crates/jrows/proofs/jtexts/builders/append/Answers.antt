use Rattle.std.proofs.Common.{◌∙◌, Some, ap}
use Rattle.jrows.proofs.JtextsProofs.BuilderRows.{append_all, append_none, append_stuck, itself}
use Rattle.jrows.proofs.jtexts.builders.append.Goals as goal

pub append_text-requires-clause-builder : goal.append_text-requires-clause-builder
append_text-requires-clause-builder g c = itself c.args.heap.now c.args.builder c.in-Some.b c.in-Some.ensures

pub append_text-requires-clause-cell : goal.append_text-requires-clause-cell
append_text-requires-clause-cell g c = c.requires.cell c.in-Some.b c.in-Some.ensures

pub returns-in_default-clause-row : goal.returns-in_default-clause-row
returns-in_default-clause-row g c p shapes things constants =
    append_stuck _ c.heap_laws.ensures.each c.args.heap.now p shapes things constants c.args.piece c.args.value c.args.builder c.in_default.ensures

pub returns-in-None-clause-row : goal.returns-in-None-clause-row
returns-in-None-clause-row g c p shapes things constants =
    append_none _ c.heap_laws.ensures.each c.args.heap.now p shapes things constants c.args.piece c.args.value c.args.builder c.in-Some.b c.in-Some.ensures
    (rw c.in-None.is at c.in_ok-shown.ensures)

pub returns-in-Some-2-clause-row : goal.returns-in-Some-2-clause-row
returns-in-Some-2-clause-row g c =
    append_all _ _ c.heap_laws.ensures.each c.args.heap.now c.append_text.new.heap c.args.piece c.args.value c.args.builder c.append_text.result
    c.in-Some.b c.as_slice.result.now
    c.in-Some.ensures (ap (λ us. Some us) c.as_slice.ensures ∙ (rw c.in-Some-2.is at c.in_ok-shown.ensures)) c.append_text.ensures.row
