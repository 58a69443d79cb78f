-- What stands below a user's class is a user's class.
use Rattle.std.proofs.Common.{◌≡◌, ◌∙◌, inl, inr, ℕ, zero, suc, ◌+◌, true, List, [], ◌++◌, length, Option, Some, None, refl, sym, ap, subst}
use Rattle.std.specs.Prelude.{option_and_then, option_map, slice_get}
use Rattle.std.specs.List.{AllByRecursion, list_any}
use Rattle.std.specs.Option.{option_to_list}
use Rattle.std.specs.Str.{bytes_eq}
use Rattle.jlib.specs.declared.classes.LibClass.{LibClass}
use Rattle.jlib.specs.declared.classes.LibClass.TheVariants as lib
use Rattle.jlib.specs.declared.side.Side.{Side}
use Rattle.jlib.specs.declared.side.Side.TheVariants.{Source, Passing}
use Rattle.jlib.specs.LibraryClasses as library
use Rattle.jresolution.specs.declared.jprogram.part.ClassRef.TheVariants as refs
use Rattle.jresolution.specs.declared.jprogram.part.CodePart.{CodePart}
use Rattle.jresolution.specs.jprogram.ClassFileParts.{this_name}
use Rattle.jresolution.specs.jprogram.ProgramClasses.{Program, above, above_name, chain, extends, face_names, find, known, object, onward, ref_of, up}
use Rattle.jresolution.specs.jprogram.OrderedPrograms.{StandsInOrder}
use Rattle.jresolution.proofs.JprogramProofs.CycleSearch.{or_split}
use Rattle.jresolution.proofs.JprogramProofs.SuperclassOrder.{object_find}
use Rattle.jresolution.proofs.JprogramProofs.NameReachability.{name_is}
use Rattle.jresolution.proofs.JprogramProofs.ClassHeights.{LibStep, Libs, Nowhere, Stands, Users, lib_steps, not_taken, stands}
use Rattle.jresolution.proofs.JprogramProofs.ReservedNames.{lib_apart}

pub unnamed : (side : Side) → library.class_named side [] ≡ None
unnamed Source = refl
unnamed Passing = refl

module _ (p : Program) (good : StandsInOrder p) where
  -- a name is of no user's class
  abbrev pub IsNoUser : List ℕ → Type 0
  IsNoUser c = (i : ℕ) → option_map ref_of (find p c) ≡ Some (refs.User i) → ⊥

  above_no_user : (c a : List ℕ) → IsNoUser c → above_name p c ≡ Some a → IsNoUser a
  above_no_user c a not-one is = by (stands p c)
    where
      by : Stands p c → IsNoUser a
      by (Users i part at own found) = absurd (not-one i (ap (option_map ref_of) found))
      by (Nowhere none) = let never : None ≡ Some a = sym (ap (option_and_then above) none) ∙ is in absurd cc
      by (Libs l called found) =
          let all = subst (λ (o : Option (List ℕ)). AllByRecursion (LibStep p (not_taken p good) l) (option_to_list o ++ face_names p c)) is (lib_steps p (not_taken p good) l c found) in
          λ i user.
          let step = all.0 in
          let both : Some (refs.Lib step.one) ≡ Some (refs.User i) = sym (ap (option_map ref_of) step.is) ∙ user in
          cc

  onward_no_user : (n : ℕ) (c d : List ℕ) (o : Option (List ℕ)) → above_name p c ≡ o → IsNoUser c
      → ((a : List ℕ) → IsNoUser a → list_any (bytes_eq d) (chain p n a) ≡ true → IsNoUser d)
      → list_any (bytes_eq d) (onward (chain p n) o) ≡ true → IsNoUser d
  onward_no_user n c d None is not-one more e = absurd cc
  onward_no_user n c d (Some a) is not-one more e = more a (above_no_user c a not-one is) e

  chain_no_user : (n : ℕ) (c d : List ℕ) → IsNoUser c → list_any (bytes_eq d) (chain p n c) ≡ true → IsNoUser d
  unfolding chain
  chain_no_user zero c d not-one e = absurd cc
  chain_no_user (suc n) c d not-one e = elim (or_split (bytes_eq d c) (list_any (bytes_eq d) (onward (chain p n) (above_name p c))) e) [
    | inl same ↦ subst IsNoUser (sym (name_is d c same)) not-one
    | inr far ↦ onward_no_user n c d (above_name p c) refl not-one (λ a none h. chain_no_user n a d none h) far
  ]

  object_no_user : IsNoUser object
  object_no_user i user =
      let both : Some (refs.Lib lib.Object) ≡ Some (refs.User i) = sym (ap (option_map ref_of) (object_find p good)) ∙ user in
      cc

  -- what stands above one that isn't a user's isn't either
  pub above_is_no_user : (c d : List ℕ) → extends p c d ≡ true → IsNoUser c → IsNoUser d
  unfolding extends
  above_is_no_user c d e not-one = elim (or_split (bytes_eq d object) (list_any (bytes_eq d) (up p c)) e) [
    | inl top ↦ subst IsNoUser (sym (name_is d object top)) object_no_user
    | inr far ↦ chain_no_user (length (known p) + 1) c d not-one far
  ]

  pub lib_no_user : (l : LibClass) → IsNoUser (library.name_of l)
  lib_no_user l i user = by (stands p (library.name_of l))
    where
      by : Stands p (library.name_of l) → ⊥
      by (Users k part at own found) = lib_apart p good k part l at own
      by (Libs m called found) = let both : Some (refs.Lib m) ≡ Some (refs.User i) = sym (ap (option_map ref_of) found) ∙ user in cc
      by (Nowhere none) = let both : None ≡ Some (refs.User i) = sym (ap (option_map ref_of) none) ∙ user in cc

  -- no class has no name
  pub find_unnamed : ((i : ℕ) (part : CodePart) → slice_get p.parts i ≡ Some part → this_name part.class ≡ [] → ⊥) → find p [] ≡ None
  find_unnamed named = by (stands p [])
    where
      by : Stands p [] → find p [] ≡ None
      by (Users k part at own found) = absurd (named k part at own)
      by (Libs l called found) = let never : None ≡ Some l = sym (unnamed p.side) ∙ called in absurd cc
      by (Nowhere none) = none
