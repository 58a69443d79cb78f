use Rattle.std.proofs.Common.{◌≡◌, List, ℕ, false, sym, ap, ◌∙◌}
use Rattle.std.specs.Prelude.{is_some}
use Rattle.std.specs.Str.{bytes_eq}
use Rattle.indexmap.specs.IndexMap.{get_by}
use Rattle.jadder.proofs.NumberedPools.{noted, notes_none, put_last}
use Rattle.jadder.proofs.adder.note.Goals as goal

pub returns : goal.returns
returns c =
    let old = c.args.numbers.now in
    let text = c.in_ok-text.text in
    let absent : is_some (get_by (λ k. bytes_eq text.items k.items) old) ≡ false =
    ap (λ (bs : List ℕ). is_some (get_by (λ k. bytes_eq bs k.items) old)) (sym c.as_slice.ensures.value) ∙ sym c.contains_key.ensures ∙ c.if-contains_key.false in
    noted c.args.one.now c.args.i text old c.insert.new.self c.in_ok-text.ensures.text (c.in_ok-insert.ensures.entries ∙ put_last text c.args.i old absent)

pub returns-in-Unused : goal.returns-in-Unused
returns-in-Unused c = λ e fit. rw c.in-Unused.is (notes_none c.args.i c.args.numbers.now e fit)
