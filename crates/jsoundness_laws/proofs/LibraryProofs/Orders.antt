-- What the world of a program whose classes stand in order says of the library's classes.
use Rattle.std.proofs.Common.{◌≡◌, ℕ, inl, inr, Bool, true, false, ◌||◌, List, [], Option, Some, None, refl, sym, ap, ◌∙◌}
use Rattle.std.specs.Prelude.{option_map, slice_get}
use Rattle.jlib.specs.declared.classes.LibClass.{LibClass}
use Rattle.jlib.specs.declared.classes.LibClass.TheVariants as lib
use Rattle.jlib.specs.declared.side.Side.{Side}
use Rattle.jlib.specs.LibraryClasses as library
use Rattle.jlib.proofs.NamePrefixes.{none_named}
use Rattle.jtypes.specs.declared.vtype.VType.{VType}
use Rattle.jtypes.specs.Assignability as checked
use Rattle.jtypes.specs.Assignability.{class_fits, is_above_arrays}
use Rattle.jresolution.specs.declared.jprogram.part.ClassRef.TheVariants as refs
use Rattle.jresolution.specs.declared.jprogram.part.CodePart.{CodePart}
use Rattle.jresolution.specs.jprogram.ProgramClasses.{Lib, Program, User, extends, find, holds, is_interface, name_at, ref_of, tree, named}
use Rattle.jresolution.specs.jprogram.OrderedPrograms.{StandsInOrder}
use Rattle.jresolution.proofs.JprogramProofs.SuperclassOrder.{extends_itself}
use Rattle.jresolution.proofs.JprogramProofs.ClassNumbers.{own_number}
use Rattle.jresolution.proofs.JprogramProofs.NameReachability.{clash}
use Rattle.jresolution.proofs.JprogramProofs.ClassHeights.{lib_find, not_taken}
use Rattle.jsemantics.specs.jmachine.HeapObjects.{library_name}
use Rattle.jsemantics.specs.jmachine.World.{World, fits, is_above, world}
use Rattle.jsoundness_laws.specs.typed.RuntimeAssignability.{IsValueType}
use Rattle.jsoundness_laws.proofs.TypedProofs.SubtypeTransitivity.{fits_after, or_right}
use Rattle.jsoundness_laws.proofs.TypedProofs.Orders.{in_order}
use Rattle.jsoundness_laws.proofs.LibraryProofs.Classes.{IsLow, closed_above, lib_named, lib_under, names_one, none_above, sort_of, under_sort}
use Rattle.jsoundness_laws.proofs.LibraryProofs.ReservedNames.{not_found}

-- What is known of the library's classes:
pub record Orders (side : Side) (w : World) : Type 0 where
  -- no array fits one that is low,
  pub arrays : (l : LibClass) → IsLow side l → is_above w (library_name l) ≡ false
  -- no class of a user one that is closed,
  pub users : (l : LibClass) → IsLow side l → library.is_open l ≡ false → (i : ℕ) → class_fits w.tree (w.named i) (library_name l) ≡ true → ⊥
  -- and of the library's those of its sort alone;
  pub sorts : (l c : LibClass) → IsLow side l → library.stands_on side c ≡ true → class_fits w.tree (library_name c) (library_name l) ≡ true → sort_of l ≡ sort_of c
  -- each class fits itself, and each type an interface's;
  pub own : (c : LibClass) → class_fits w.tree (library_name c) (library_name c) ≡ true
  pub faces : (c : LibClass) → library.stands_on side c ≡ true → library.is_interface c ≡ true → w.tree.is_interface (library_name c) ≡ true
  -- no class of the other side's library extends one;
  pub apart : (l c : LibClass) → IsLow side l → library.stands_on side c ≡ false → class_fits w.tree (library_name c) (library_name l) ≡ true → ⊥
  -- and what fits goes on with what fits.
  pub after : (a b c : VType) → IsValueType a → fits w a b ≡ true → checked.fits w.tree b c ≡ true → fits w a c ≡ true

both_false : (a b : Bool) → (a ≡ true → ⊥) → b ≡ false → a || b ≡ false
both_false true b never e = absurd (never refl)
both_false false b never e = e

only_second : (a b : Bool) → a ≡ false → a || b ≡ true → b ≡ true
only_second true b e h = absurd (cc)
only_second false b e h = h

module _ (p : Program) (good : StandsInOrder p) where
  has : (c : LibClass) → library.stands_on p.side c ≡ true → find p (library.name_of c) ≡ Some (Lib c)
  has c on = lib_find p (not_taken p good) c on

  no_face : (l : LibClass) → IsLow p.side l → holds is_interface (find p (library.name_of l)) ≡ false
  no_face l low = ap (holds is_interface) (has l low.on) ∙ low.face

  -- ---- arrays

  not_above : (l : LibClass) → IsLow p.side l → is_above_arrays (library_name l) ≡ true → ⊥
  not_above l low e = elim ((in_order p good).two (library_name l) e) [
    | inl same ↦ low.top (names_one p.side l lib.Object low.on refl same)
    | inr face ↦ clash (holds is_interface (find p (library.name_of l))) face (no_face l low)
  ]

  pub arrays_of : (l : LibClass) → IsLow p.side l → is_above (world p) (library_name l) ≡ false
  unfolding world
  arrays_of l low = both_false (is_above_arrays (library_name l)) (holds is_interface (find p (library.name_of l))) (not_above l low) (no_face l low)

  -- ---- users' classes

  extended : (c l : LibClass) → IsLow p.side l → (d : List ℕ) → holds is_interface (find p (library.name_of l)) || extends p d (library.name_of l) ≡ true
      → extends p d (library.name_of l) ≡ true
  extended c l low d e = only_second (holds is_interface (find p (library.name_of l))) (extends p d (library.name_of l)) (no_face l low) e

  no_part : (k : LibClass) (i : ℕ) → Some (refs.Lib k) ≡ Some (refs.User i) → ⊥
  no_part k i e = cc

  not_some : (k : LibClass) → None ≡ Some k → ⊥
  not_some k e = cc

  user_apart : (i : ℕ) (k : LibClass) (o : Option CodePart) → slice_get p.parts i ≡ o → find p (named (option_map (λ part. User i part.class) o)) ≡ Some (Lib k) → ⊥
  user_apart i k None at e = not_some k (sym (none_named p.side [] refl) ∙ lib_named p good [] k e)
  user_apart i k (Some part) at e = no_part k i (sym (ap (option_map ref_of) e) ∙ own_number p i part good at)

  pub users_of : (l : LibClass) → IsLow p.side l → library.is_open l ≡ false → (i : ℕ) → class_fits (world p).tree ((world p).named i) (library_name l) ≡ true → ⊥
  unfolding world
  users_of l low closed i e =
      let h = closed_above p good (name_at p (refs.User i)) l low closed (extended l l low (name_at p (refs.User i)) e) in
      user_apart i h.0 (slice_get p.parts i) refl h.1

  -- ---- the library's classes

  pub sorts_of : (l c : LibClass) → IsLow p.side l → library.stands_on p.side c ≡ true → class_fits (world p).tree (library_name c) (library_name l) ≡ true → sort_of l ≡ sort_of c
  unfolding world
  sorts_of l c low on e = under_sort l low.top _ c (lib_under p good c l low on (extended c l low (library.name_of c) e))

  pub own_of : (c : LibClass) → class_fits (world p).tree (library_name c) (library_name c) ≡ true
  unfolding world
  own_of c = or_right (holds is_interface (find p (library.name_of c))) (extends p (library.name_of c) (library.name_of c)) (extends_itself p (library.name_of c))

  pub faces_of : (c : LibClass) → library.stands_on p.side c ≡ true → library.is_interface c ≡ true → (world p).tree.is_interface (library_name c) ≡ true
  unfolding world
  faces_of c on face = ap (holds is_interface) (has c on) ∙ face

  apart_of : (l c : LibClass) → IsLow p.side l → library.stands_on p.side c ≡ false → class_fits (world p).tree (library_name c) (library_name l) ≡ true → ⊥
  unfolding world
  apart_of l c low off e = none_above p good (library.name_of c) l low (not_found p good c off) (extended c l low (library.name_of c) e)

  pub after_of : (a b c : VType) → IsValueType a → fits (world p) a b ≡ true → checked.fits (world p).tree b c ≡ true → fits (world p) a c ≡ true
  unfolding world
  after_of a b c value first second = fits_after (tree p) (in_order p good) a b c value first second

  pub orders : Orders p.side (world p)
  orders = record { arrays = arrays_of; users = users_of; sorts = sorts_of; own = own_of; faces = faces_of; apart = apart_of; after = after_of }
