-- The laws of what fits what, over a tree.
use Rattle.std.proofs.Common.{◌≡◌, ℕ, Bool, true, false, ◌||◌, ◌==◌, refl, ◌∙◌}
use Rattle.std.proofs.lemmas.Bool.{eq-eqb}
use Rattle.jtypes.specs.declared.vtype.Element.{Element}
use Rattle.jtypes.specs.declared.vtype.Element.TheVariants as elements
use Rattle.jtypes.specs.declared.vtype.Name.{Name}
use Rattle.jtypes.specs.declared.vtype.VType.{VType}
use Rattle.jtypes.specs.declared.vtype.VType.TheVariants.{Top, Int, Long, Null, UninitThis, Uninit, Object, Array, Ctx}
use Rattle.jtypes.specs.Assignability.{class_fits, element_fits, fits_where}
use Rattle.jtypes.specs.ClassTrees.{Tree}
use Rattle.jtypes.proofs.Dimensions.{as_many_fit}

or_true : (a b : Bool) → b ≡ true → (a || b) ≡ true
or_true true b h = refl
or_true false b h = h

class_itself : (t : Tree) → ((c : Name) → t.extends c c ≡ true) → (c : Name) → class_fits t c c ≡ true
class_itself t own c = or_true (t.is_interface c) (t.extends c c) (own c)

element_itself : (t : Tree) → ((c : Name) → t.extends c c ≡ true) → (x : Element) → element_fits t x x ≡ true
element_itself t own elements.Boolean = refl
element_itself t own elements.Char = refl
element_itself t own elements.Byte = refl
element_itself t own elements.Short = refl
element_itself t own elements.Int = refl
element_itself t own elements.Long = refl
element_itself t own (elements.Class c) = class_itself t own c

same_number : (o : ℕ) → (o == o) ≡ true
same_number o = eq-eqb o o refl

pub fits_itself : (above : Name → Bool) (t : Tree) → ((c : Name) → t.extends c c ≡ true) → (a : VType) → fits_where above t a a ≡ true
fits_itself above t own Top = refl
fits_itself above t own Int = refl
fits_itself above t own Long = refl
fits_itself above t own Null = refl
fits_itself above t own UninitThis = refl
fits_itself above t own (Uninit o) = same_number o
fits_itself above t own (Object c) = class_itself t own c
fits_itself above t own (Array a) = as_many_fit above t a.depth a.element a.element ∙ element_itself t own a.element
fits_itself above t own Ctx = refl
