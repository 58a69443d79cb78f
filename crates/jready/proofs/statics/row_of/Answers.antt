use Rattle.std.proofs.Common.{◌≡◌, ℕ, List, Option, ap, subst, ◌∙◌}
use Rattle.std.specs.Prelude.{option_and_then, slice_get, unwrap_or}
use Rattle.jvalues.specs.declared.jops.value.Value.{Value}
use Rattle.jresolution.specs.jlayout.FieldLayout.{element}
use Rattle.jsemantics.specs.jmachine.Narrowing.{narrowed}
use Rattle.jsemantics.specs.jmachine.OpeningState.{value_of}
use Rattle.jready.specs.InlineOperands.{narrow}
use Rattle.jready.specs.Statics.{nothing}
use Rattle.jready.proofs.StaticDefaults.{cell_is, static_is}
use Rattle.jready.proofs.statics.row_of.Goals as goal

pub returns : goal.returns
returns c =
    let p = c.args.p.now in
    let parts = c.args.parts.now in
    let n = c.narrow_of.result in
    let cell = c.cell_in-cell.result in
    let celled = cell_is p c.named.result.now parts c.args.field.now c.member_desc-desc.result.now c.in_ok-held_type.field-0 cell c.named.ensures.same
    c.member_desc-desc.ensures c.in_ok-held_type.ensures c.cell_in-cell.ensures in
    let keeps = subst (λ (d : List ℕ). (v : Value ℕ) → narrowed (element d) v ≡ narrow n v) c.member_desc-desc.ensures c.narrow_of.ensures in
    static_is p parts c.args.field.now _ n c.requires celled keeps
    (λ made. c.first_of-first.ensures made ∙ ap (λ (o : Option ℕ). narrow n
    (unwrap_or (value_of made parts (option_and_then (slice_get parts.pool) o)) (nothing cell))) c.constant_index.ensures)
