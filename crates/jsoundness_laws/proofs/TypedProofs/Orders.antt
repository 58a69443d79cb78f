-- Where a program's classes stand in order, what fits at run time and then as checked fits at run time.
use Rattle.std.proofs.Common.{◌≡◌, ℕ, ◌⊎◌, inl, inr, true, ◌||◌, List, refl, sym, ap, subst, ◌∙◌}
use Rattle.std.specs.Prelude.{codes}
use Rattle.std.specs.Str.{bytes_eq}
use Rattle.jlib.specs.declared.classes.LibClass.TheVariants as lib
use Rattle.jtypes.specs.declared.vtype.Name.{Name}
use Rattle.jtypes.specs.Assignability.{is_above_arrays}
use Rattle.jresolution.specs.jprogram.ProgramClasses.{Program, extends, find, holds, is_interface, object, tree}
use Rattle.jresolution.specs.jprogram.OrderedPrograms.{StandsInOrder}
use Rattle.jresolution.proofs.JprogramProofs.SuperclassOrder as extending
use Rattle.jresolution.proofs.JprogramProofs.NameReachability.{name_is}
use Rattle.jresolution.proofs.JprogramProofs.ClassHeights.{lib_find, not_taken}
use Rattle.jsemantics.specs.jmachine.World.{world}
use Rattle.jsoundness_laws.specs.typed.RuntimeAssignability.{FitsAfter}
use Rattle.jsoundness_laws.proofs.TypedProofs.SubtypeTransitivity.{InOrder, fits_after, or_split}

module _ (p : Program) (stands : StandsInOrder p) where
  abbrev IsFace : List ℕ → Type 0
  IsFace c = holds is_interface (find p c) ≡ true

  cloneable : IsFace (codes "java/lang/Cloneable")
  cloneable = ap (holds is_interface) (lib_find p (not_taken p stands) lib.Cloneable refl)

  serializable : IsFace (codes "java/io/Serializable")
  serializable = ap (holds is_interface) (lib_find p (not_taken p stands) lib.Serializable refl)

  abbrev IsTop : Name → Type 0
  IsTop c = (c.0 ≡ object) ⊎ IsFace c.0

  first_of : (c : Name) → (bytes_eq c.0 object ≡ true) ⊎ (bytes_eq c.0 (codes "java/lang/Cloneable") ≡ true) → IsTop c
  first_of c (inl e) = inl (name_is c.0 object e)
  first_of c (inr e) = inr (subst IsFace (sym (name_is c.0 (codes "java/lang/Cloneable") e)) cloneable)

  one_of : (c : Name) → (bytes_eq c.0 object || bytes_eq c.0 (codes "java/lang/Cloneable") ≡ true) ⊎ (bytes_eq c.0 (codes "java/io/Serializable") ≡ true) → IsTop c
  one_of c (inl e) = first_of c (or_split (bytes_eq c.0 object) (bytes_eq c.0 (codes "java/lang/Cloneable")) e)
  one_of c (inr e) = inr (subst IsFace (sym (name_is c.0 (codes "java/io/Serializable") e)) serializable)

  three : (c : Name) → is_above_arrays c ≡ true → IsTop c
  three c e = one_of c (or_split (bytes_eq c.0 object || bytes_eq c.0 (codes "java/lang/Cloneable")) (bytes_eq c.0 (codes "java/io/Serializable")) e)

  last : (c d : List ℕ) → c ≡ object → extends p c d ≡ true → d ≡ object
  last c d at e = sym (extending.extends_both p stands object d (subst (λ (x : List ℕ). extends p x d ≡ true) at e) (extending.extends_object p d))

  pub in_order : InOrder (tree p)
  in_order = record {
    itself = λ c. extending.extends_itself p c.0;
    chain = λ c d e first second. extending.extends_chain p stands c.0 d.0 e.0 first second;
    object = λ c d at. ap (extends p c.0) at ∙ extending.extends_object p c.0;
    last = λ c d at e. last c.0 d.0 at e;
    interfaces = extending.interfaces_extend p stands;
    two = three;
  }

pub fits_in_order : FitsAfter
unfolding world
fits_in_order p a b c stands value first second = fits_after (tree p) (in_order p stands) a b c value first second
