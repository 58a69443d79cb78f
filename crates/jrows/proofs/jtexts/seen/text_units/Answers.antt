use Rattle.std.proofs.Common.{◌≡◌, ◌∙◌, ℕ, List, ◌++◌, Some, ap, sym}
use Rattle.jmemory.specs.jheap.Heaps.{cells_at}
use Rattle.jruntime.specs.jstate.HeapMeanings.{units_of}
use Rattle.jrows.proofs.JtextsProofs.TextReads.{is_no_text, is_text, sees_units}
use Rattle.jrows.proofs.jtexts.seen.text_units.Goals as goal

pub returns-in_default : goal.returns-in_default
returns-in_default c p shapes things constants =
    sees_units c.heap_laws.ensures.each p shapes things constants c.args.heap.now c.args.value ∙ is_no_text c.args.heap.now c.args.value c.in_default.ensures

pub returns : goal.returns
returns c p shapes things constants =
    let text = is_text c.args.heap.now c.args.value c.in-Some.o c.in-Some.ensures in
    let all : c.read_onto.new.units.items ≡ units_of (cells_at c.args.heap.now c.in-Some.o) =
    c.in_ok-read_onto.ensures ∙ ap (λ (us : List ℕ). us ++ units_of (cells_at c.args.heap.now c.in-Some.o)) c.new-units.ensures.items in
    sees_units c.heap_laws.ensures.each p shapes things constants c.args.heap.now c.args.value
    ∙ text.units
    ∙ ap (λ (us : List ℕ). Some us) (sym (c.from_vec.ensures ∙ all))
