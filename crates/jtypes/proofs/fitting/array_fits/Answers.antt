use Rattle.std.proofs.Common.{◌≡◌, ap, sym, ◌∙◌, arith}
use Rattle.jtypes.specs.Assignability.{array_fits, is_above_arrays}
use Rattle.jtypes.proofs.Dimensions.{as_many_fit, fewer_fail, more_fit}
use Rattle.jtypes.proofs.fitting.array_fits.Goals as goal

pub returns-then-a-b : goal.returns-then-a-b
returns-then-a-b g c =
    let t = g.N.Ancestry.tree c.args.n.now in
    let a = c.args.a.now in
    let b = c.args.b.now in
    sym (fewer_fail is_above_arrays t a.depth a.element b.depth b.element c.if-a-b.true)

pub returns-then-a-b-2 : goal.returns-then-a-b-2
returns-then-a-b-2 g c =
    let t = g.N.Ancestry.tree c.args.n.now in
    let a = c.args.a.now in
    let b = c.args.b.now in
    c.is_above_array.ensures ∙ sym (more_fit is_above_arrays t a.depth a.element b.depth b.element c.if-a-b-2.true)

pub returns : goal.returns
returns g c =
    let t = g.N.Ancestry.tree c.args.n.now in
    let a = c.args.a.now in
    let b = c.args.b.now in
    let same : a.depth ≡ b.depth = omega arith in
    c.element_fits.ensures ∙ sym (as_many_fit is_above_arrays t a.depth a.element b.element) ∙ ap (λ e. array_fits is_above_arrays t a.depth a.element e b.element) same
