use Rattle.std.proofs.Common.{◌≡◌, ap, sym, ◌∙◌, arith}
use Rattle.jresolution.specs.jprogram.ProgramClasses.{tree}
use Rattle.jtypes.specs.Assignability.{array_fits, is_above_arrays}
use Rattle.jtypes.proofs.Dimensions.{as_many_fit, fewer_fail, more_fit}
use Rattle.jresolution.specs.juses.InternedTypes.{element_named}
use Rattle.jresolution.proofs.juses.fitting.array_fits.Goals as goal

pub returns-then-a-b : goal.returns-then-a-b
returns-then-a-b c =
    let p = c.args.p.now in
    sym (fewer_fail is_above_arrays (tree p) c.args.a.depth (element_named p c.args.a.element) c.args.b.depth (element_named p c.args.b.element) c.if-a-b.true)

pub returns-then-a-b-2 : goal.returns-then-a-b-2
returns-then-a-b-2 c =
    let p = c.args.p.now in
    c.is_above_array.ensures ∙ sym (more_fit is_above_arrays (tree p) c.args.a.depth (element_named p c.args.a.element) c.args.b.depth (element_named p c.args.b.element) c.if-a-b-2.true)

pub returns : goal.returns
returns c =
    let p = c.args.p.now in
    let x = element_named p c.args.a.element in
    let y = element_named p c.args.b.element in
    let same : c.args.a.depth ≡ c.args.b.depth = omega arith in
    c.element_fits.ensures ∙ sym (as_many_fit is_above_arrays (tree p) c.args.a.depth x y) ∙ ap (λ e. array_fits is_above_arrays (tree p) c.args.a.depth x e y) same
