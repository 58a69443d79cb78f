-- Types by number that fit.
use Rattle.std.proofs.Common.{◌≡◌, ◌∙◌, ℕ, ◌<◌, Bool, true, false, ◌||◌, refl, sym, ap}
use Rattle.jtypes.specs.declared.vtype.Element.{Element}
use Rattle.jtypes.specs.declared.vtype.Name.{Name}
use Rattle.jtypes.specs.Assignability.{array_fits, class_fits, element_fits}
use Rattle.jtypes.specs.ProofNames.{is_above_array}
use Rattle.jtypes.specs.ClassTrees.{Tree}
use Rattle.jtypes.proofs.Dimensions.{as_many_fit, fewer_fail, more_fit}
use Rattle.jresolution.specs.declared.jprogram.part.ClassRef.{ClassRef}
use Rattle.jresolution.specs.declared.jprogram.part.ClassRef.TheVariants as refs
use Rattle.jresolution.specs.jprogram.ProgramClasses.{Program, extends}
use Rattle.jlib.specs.declared.classes.LibClass.TheVariants as lib
use Rattle.jresolution.specs.juses.InternedTypes.{class_named}
use Rattle.jlinking.specs.jlink.ClassOrder.{itself}
use Rattle.jserving.specs.declared.jfits.fitting.Asked.{Asked}
use Rattle.jserving.specs.declared.jfits.fitting.Asked.TheVariants as asked
use Rattle.jserving.specs.jfits.TypeQueries.{tree_by}

or_true : (a b : Bool) → b ≡ true → (a || b) ≡ true
or_true true b h = refl
or_true false b h = h

true_or : (a b : Bool) → a ≡ true → (a || b) ≡ true
true_or true b h = refl
true_or false b h = cc

same_fits : (p : Program) (a : Asked) (c : ClassRef) → class_fits (tree_by p a) (class_named p c) (class_named p c) ≡ true
same_fits p asked.Fits c = or_true _ _ (itself p (class_named p c))
same_fits p asked.IsOne c = true_or _ _ (itself p (class_named p c))

-- a class fits itself
pub one_fits : (p : Program) (a : Asked) (c d : ClassRef) → c ≡ d → true ≡ class_fits (tree_by p a) (class_named p c) (class_named p d)
one_fits p a c d e = sym (ap (λ (x : ClassRef). class_fits (tree_by p a) (class_named p c) (class_named p x)) (sym e) ∙ same_fits p a c)

top_fits : (p : Program) (a : Asked) (c : Name) → class_fits (tree_by p a) c (class_named p (refs.Lib lib.Object)) ≡ true
unfolding extends
top_fits p asked.Fits c = or_true _ _ refl
top_fits p asked.IsOne c = refl

-- every class fits Object
pub under_object : (p : Program) (a : Asked) (c d : ClassRef) → d ≡ refs.Lib lib.Object → true ≡ class_fits (tree_by p a) (class_named p c) (class_named p d)
under_object p a c d e = sym (ap (λ (x : ClassRef). class_fits (tree_by p a) (class_named p c) (class_named p x)) e ∙ top_fits p a (class_named p c))

-- ---- arrays by their numbers of dimensions

module _ (above : Name → Bool) (t : Tree) (d : ℕ) (x : Element) (e : ℕ) (y : Element) where
  pub fewer : d < e → false ≡ array_fits above t d x e y
  fewer few = sym (fewer_fail above t d x e y few)

  pub more : (b : Bool) → e < d → b ≡ is_above_array above y → b ≡ array_fits above t d x e y
  more b many h = h ∙ sym (more_fit above t d x e y many)

  pub as_many : (b : Bool) → d ≡ e → b ≡ element_fits t x y → b ≡ array_fits above t d x e y
  as_many b same h = h ∙ sym (as_many_fit above t d x y) ∙ ap (λ n. array_fits above t d x n y) same
