-- A program and the moved one have the same classes, at all names.
use Rattle.std.proofs.Common.{◌≡◌, ℕ, zero, suc, Bool, true, false, List, [], ◌∷◌, length, Option, Some, None, refl, ap, sym, ◌∙◌, inl, inr}
use Rattle.std.specs.Prelude.{◌⊎◌, option_and_then, option_map, option_to_list, slice_get, ◌||◌}
use Rattle.std.specs.List.{list_any}
use Rattle.std.specs.Str.{bytes_eq}
use Rattle.std.proofs.Math.Path.{fun_ext}
use Rattle.jlib.specs.declared.classes.LibClass.{LibClass}
use Rattle.jlib.specs.declared.classes.LibClass.TheVariants as lib
use Rattle.jlib.specs.declared.classes.PermissionClass.TheVariants as permission
use Rattle.jlib.specs.declared.classes.Thrown.TheVariants as thrown
use Rattle.jlib.specs.LibraryClasses as library
use Rattle.jlib.proofs.LibraryLookup.{class_found}
use Rattle.jtypes.specs.declared.vtype.Name.{Name}
use Rattle.jresolution.specs.declared.jprogram.part.ClassRef.TheVariants as refs
use Rattle.jresolution.specs.declared.jprogram.part.CodePart.{CodePart}
use Rattle.jresolution.specs.jprogram.ProgramClasses.{Class, Lib, Program, User, above, extends, face_names, find, holds, implements, is_interface, known, name_at, object, onward, over, ref_of, super_at, superinterfaces, tree, up, named, faces_of}
use Rattle.jresolution.specs.jprogram.ProofNames.{main_in}
use Rattle.jresolution.specs.jprogram.MemberResolution.{main_of}
use Rattle.jresolution.specs.jprogram.NameChecks.{is_reserved}
use Rattle.jresolution.specs.jprogram.ClassFileParts.{super_name, this_name}
use Rattle.jresolution.specs.jprogram.OrderedPrograms.{StandsInOrder}
use Rattle.jresolution.proofs.JprogramProofs.SuperclassOrder.{object_find, object_up, up_is}
use Rattle.jresolution.proofs.JprogramProofs.ClassHeights.{Stands, Users, Libs, Nowhere, stands}
use Rattle.jresolution.proofs.JprogramProofs.NameReachability.{clash}
use Rattle.jresolution.specs.jlayout.FieldLayout.{own_types}
use Rattle.jmoveclass.specs.MovedClasses.{moved_part}
use Rattle.jrewriting.specs.jrewrite.RewrittenPrograms.{moved}
use Rattle.jrewriting.proofs.JrewriteProofs.ClassLookup.{SameFound, above_same, named_at, part_moved, this_same}
use Rattle.jrewriting.proofs.JrewriteProofs.HierarchyPhases.{AllPlain, IsPlain, any_same, extending_stays, names_stay, part_of_moved, plain_above, plain_at, same, text_plain}
use Rattle.jrewriting.proofs.JrewriteProofs.SupertypeChains.{extends_same, interface_name, supers_above, up_same}
use Rattle.jmoved_laws.proofs.NamesProofs.ClassChains.{found_plain}

-- the classes of both stand in order
pub ordered : (p : Program) → IsPlain p → StandsInOrder p
ordered p is = record { named = is.naming; extended = is.extending }

pub moved_ordered : (p : Program) → IsPlain p → StandsInOrder (moved p)
moved_ordered p is = record { named = names_stay p is; extended = extending_stays p is }

-- ---- interfaces above what lists none

over_none : (q : Program) (n : ℕ) → over q n [] ≡ []
unfolding over
over_none q zero = refl
over_none q (suc n) = refl

pub no_faces : (q : Program) (x : List ℕ) → face_names q x ≡ [] → superinterfaces q x ≡ []
no_faces q x e = ap (over q (length (known q))) e ∙ over_none q (length (known q))

-- ---- names that are kept for the passing side

-- a class of the library that stands on the passing side alone
record IsKept (l : LibClass) : Type 0 where
  above : library.superclass l ≡ Some lib.Object
  alone : library.implemented l ≡ None
  plain : library.is_interface l ≡ false

kept_class : (l : LibClass) → is_reserved (library.name_of l) ≡ true → IsKept l
kept_class lib.Rt h = record { above = refl; alone = refl; plain = refl }
kept_class lib.Ctx h = record { above = refl; alone = refl; plain = refl }
kept_class (lib.Thrown thrown.Throwable) h = absurd cc
kept_class (lib.Permission permission.Permission) h = absurd cc
kept_class l h = absurd cc

module _ (p : Program) (is : IsPlain p) (c : List ℕ) (kept : is_reserved c ≡ true) where
  -- the program has none
  none_by : (o : Option Class) → find p c ≡ o → find p c ≡ None
  none_by None e = e
  none_by (Some k) e = clash (is_reserved c) kept (found_plain p is c k e)

  none_here : find p c ≡ None
  none_here = none_by (find p c) refl

  data Found : Type 0 where
    Nothing : find (moved p) c ≡ None → Found
    Kept : (l : LibClass) → find (moved p) c ≡ Some (Lib l) → IsKept l → Found

  -- and the moved program those of the library alone
  found_there : Found
  found_there = by (stands (moved p) c)
    where
      by : Stands (moved p) c → Found
      by (Nowhere none) = Nothing none
      by (Libs l at here) = Kept l here (kept_class l (ap is_reserved (class_found (moved p).side c l at).0 ∙ kept))
      by (Users i part at name here) =
          let f = part_of_moved p i part at in
          let x = plain_at p is i f.part f.at in
          let old : this_name part.class ≡ this_name f.part.class = ap (λ (y : CodePart). this_name y.class) (sym f.is) ∙ this_same p f.part.domain f.part.class x.named in
          clash (is_reserved c) kept (ap is_reserved (sym name ∙ old) ∙ text_plain f.part.class f.part.class.this_class x.kept x.named.this)

  up_here : up p c ≡ c ∷ []
  up_here = up_is p (ordered p is) c ∙ ap (λ (o : Option Class). c ∷ onward (up p) (option_and_then above o)) none_here

  up_there : Found → (up (moved p) c ≡ c ∷ []) ⊎ (up (moved p) c ≡ c ∷ object ∷ [])
  up_there (Nothing none) = inl (up_is (moved p) (moved_ordered p is) c ∙ ap (λ (o : Option Class). c ∷ onward (up (moved p)) (option_and_then above o)) none)
  up_there (Kept l here k) =
      inr (up_is (moved p) (moved_ordered p is) c
      ∙ ap (λ (o : Option Class). c ∷ onward (up (moved p)) (option_and_then above o)) here
      ∙ ap (λ (o : Option LibClass). c ∷ onward (up (moved p)) (option_map library.name_of o)) k.above
      ∙ ap (λ (xs : List (List ℕ)). c ∷ xs) (object_up (moved p) (moved_ordered p is)))

  face_kept : Found → holds is_interface (find (moved p) c) ≡ holds is_interface (find p c)
  face_kept (Nothing none) = ap (holds is_interface) (none ∙ sym none_here)
  face_kept (Kept l here k) = ap (holds is_interface) here ∙ k.plain ∙ sym (ap (holds is_interface) none_here)

  types_there : Found → own_types (moved p) (find (moved p) c) ≡ own_types p (find p c)
  types_there (Nothing none) = ap (own_types (moved p)) none ∙ sym (ap (own_types p) none_here)
  types_there (Kept l here k) = ap (own_types (moved p)) here ∙ sym (ap (own_types p) none_here)

  pub kept_types : own_types (moved p) (find (moved p) c) ≡ own_types p (find p c)
  kept_types = types_there found_there

  main_there : Found → main_of (moved p) c ≡ main_of p c
  unfolding main_of
  main_there (Nothing none) = ap (main_in (moved p).side) none ∙ sym (ap (main_in p.side) none_here)
  main_there (Kept l here k) = ap (main_in (moved p).side) here ∙ sym (ap (main_in p.side) none_here)

  pub kept_main : main_of (moved p) c ≡ main_of p c
  kept_main = main_there found_there

  -- Object is above all
  two_ends : (d : List ℕ) (a b : Bool) → (a || (b || (a || false))) ≡ (a || (b || false))
  two_ends d true b = refl
  two_ends d false b = refl

  extends_by : (d : List ℕ) → (up (moved p) c ≡ c ∷ []) ⊎ (up (moved p) c ≡ c ∷ object ∷ []) → extends (moved p) c d ≡ extends p c d
  unfolding extends
  extends_by d (inl e) = ap (λ (xs : List (List ℕ)). bytes_eq d object || list_any (bytes_eq d) xs) (e ∙ sym up_here)
  extends_by d (inr e) =
      ap (λ (xs : List (List ℕ)). bytes_eq d object || list_any (bytes_eq d) xs) e ∙ two_ends d (bytes_eq d object) (bytes_eq d c)
      ∙ sym (ap (λ (xs : List (List ℕ)). bytes_eq d object || list_any (bytes_eq d) xs) up_here)

  extends_kept : (d : List ℕ) → extends (moved p) c d ≡ extends p c d
  extends_kept d = extends_by d (up_there found_there)

  -- ---- interfaces

  faces_there : Found → face_names (moved p) c ≡ []
  faces_there (Nothing none) = ap faces_of none
  faces_there (Kept l here k) = ap faces_of here ∙ ap (λ (o : Option LibClass). option_to_list (option_map library.name_of o)) k.alone

  pub none_has : (i : List ℕ) → implements p c i ≡ false
  unfolding implements
  none_has i =
      ap (list_any (λ x. list_any (bytes_eq i) (superinterfaces p x))) up_here
      ∙ ap (λ (xs : List (List ℕ)). list_any (bytes_eq i) xs || false) (no_faces p c (ap faces_of none_here))

  none_has_there : (i : List ℕ) → (up (moved p) c ≡ c ∷ []) ⊎ (up (moved p) c ≡ c ∷ object ∷ []) → implements (moved p) c i ≡ false
  unfolding implements
  none_has_there i (inl e) =
      ap (list_any (λ x. list_any (bytes_eq i) (superinterfaces (moved p) x))) e
      ∙ ap (λ (xs : List (List ℕ)). list_any (bytes_eq i) xs || false) (no_faces (moved p) c (faces_there found_there))
  none_has_there i (inr e) =
      ap (list_any (λ x. list_any (bytes_eq i) (superinterfaces (moved p) x))) e
      ∙ ap (λ (xs : List (List ℕ)). list_any (bytes_eq i) xs || (list_any (bytes_eq i) (superinterfaces (moved p) object) || false)) (no_faces (moved p) c (faces_there found_there))
      ∙ ap (λ (xs : List (List ℕ)). list_any (bytes_eq i) xs || false) (no_faces (moved p) object (ap faces_of (object_find (moved p) (moved_ordered p is))))

  implements_kept : (i : List ℕ) → implements (moved p) c i ≡ implements p c i
  implements_kept i = none_has_there i (up_there found_there) ∙ sym (none_has i)

-- ---- at all names

pub either_name : {P : List ℕ → Type 0} → ((c : List ℕ) → is_reserved c ≡ false → P c) → ((c : List ℕ) → is_reserved c ≡ true → P c) → (c : List ℕ) (b : Bool) → is_reserved c ≡ b → P c
either_name plain kept c false e = plain c e
either_name plain kept c true e = kept c e

module _ (p : Program) (is : IsPlain p) where
  pub face_same : (c : List ℕ) → holds is_interface (find (moved p) c) ≡ holds is_interface (find p c)
  face_same c = either_name {P = λ c. holds is_interface (find (moved p) c) ≡ holds is_interface (find p c)} (interface_name p is) (λ x kept. face_kept p is x kept (found_there p is x kept)) c (is_reserved c) refl

  pub all_extends : (c d : List ℕ) → extends (moved p) c d ≡ extends p c d
  all_extends c d = either_name {P = λ c. extends (moved p) c d ≡ extends p c d} (λ x plain. extends_same p is x d plain) (λ x kept. extends_kept p is x kept d) c (is_reserved c) refl

  implements_plain : (i c : List ℕ) → is_reserved c ≡ false → implements (moved p) c i ≡ implements p c i
  unfolding implements
  implements_plain i c plain =
      let s = up_same p is c plain in
      ap (list_any (λ x. list_any (bytes_eq i) (superinterfaces (moved p) x))) s.same
      ∙ any_same (λ x. list_any (bytes_eq i) (superinterfaces (moved p) x)) (λ x. list_any (bytes_eq i) (superinterfaces p x)) (up p c) s.plain (λ x here. ap (list_any (bytes_eq i)) (supers_above p is x here).same)

  pub all_implement : (c i : List ℕ) → implements (moved p) c i ≡ implements p c i
  all_implement c i = either_name {P = λ c. implements (moved p) c i ≡ implements p c i} (implements_plain i) (λ x kept. implements_kept p is x kept i) c (is_reserved c) refl

  abbrev faces_of_tree : Program → Name → Bool
  faces_of_tree q = λ (c : Name). holds is_interface (find q c.0)

  abbrev uppers_of_tree : Program → Name → Name → Bool
  uppers_of_tree q = λ (c d : Name). extends q c.0 d.0

  pub same_tree : tree (moved p) ≡ tree p
  same_tree =
      let faces : faces_of_tree (moved p) ≡ faces_of_tree p = fun_ext (λ (c : Name). face_same c.0) in
      let uppers : uppers_of_tree (moved p) ≡ uppers_of_tree p = fun_ext (λ (c : Name). fun_ext (λ (d : Name). all_extends c.0 d.0)) in
      ap (λ (f : Name → Bool). record { is_interface = f; extends = λ (c d : Name). extends (moved p) c.0 d.0 }) faces
      ∙ ap (λ (f : Name → Name → Bool). record { is_interface = λ (c : Name). holds is_interface (find p c.0); extends = f }) uppers

  -- ---- by number

  user_named : (i : ℕ) (o : Option CodePart) → slice_get p.parts i ≡ o → named (option_map (λ part. User i part.class) (option_map (moved_part p) o)) ≡ named (option_map (λ part. User i part.class) o)
  user_named i None at = refl
  user_named i (Some part) at = this_same p part.domain part.class (named_at p.parts i part is.all at)

  pub name_same : (i : ℕ) → name_at (moved p) (refs.User i) ≡ name_at p (refs.User i)
  unfolding moved
  name_same i = ap (λ (o : Option CodePart). named (option_map (λ part. User i part.class) o)) (part_moved p p.parts i) ∙ user_named i (slice_get p.parts i) refl

  -- a user's class has a name that isn't kept
  user_plain : (i : ℕ) (o : Option CodePart) → slice_get p.parts i ≡ o → is_reserved (named (option_map (λ part. User i part.class) o)) ≡ false
  user_plain i None at = refl
  user_plain i (Some part) at = let x = plain_at p is i part at in text_plain part.class part.class.this_class x.kept x.named.this

  pub name_plain : (i : ℕ) → is_reserved (name_at p (refs.User i)) ≡ false
  name_plain i = user_plain i (slice_get p.parts i) refl

  -- the number of a class that was found
  pub ref_same : (a b : Option Class) → SameFound p a b → option_map ref_of b ≡ option_map ref_of a
  ref_same None None h = refl
  ref_same (Some (User i c)) (Some (User j d)) h = ap (λ (n : ℕ). Some (refs.User n)) (sym h.0)
  ref_same (Some (Lib c)) (Some (Lib d)) h = ap (λ (l : LibClass). Some (refs.Lib l)) (sym h)
  ref_same None (Some d) h = absurd h
  ref_same (Some (User i c)) None h = absurd h
  ref_same (Some (Lib c)) None h = absurd h
  ref_same (Some (User i c)) (Some (Lib d)) h = absurd h
  ref_same (Some (Lib c)) (Some (User j d)) h = absurd h

  super_by : (i : ℕ) (o : Option CodePart) → slice_get p.parts i ≡ o
      → option_map ref_of (option_and_then (find (moved p)) (option_and_then above (option_map (λ part. User i part.class) (option_map (moved_part p) o)))) ≡ option_map ref_of (option_and_then (find p) (option_and_then above (option_map (λ part. User i part.class) o)))
  super_by i None at = refl
  super_by i (Some part) at =
      let x = plain_at p is i part at in
      ap (λ (s : Option (List ℕ)). option_map ref_of (option_and_then (find (moved p)) s)) (above_same p part.domain part.class x.named) ∙ by (super_name part.class) (plain_above part.class x)
    where
      by : (s : Option (List ℕ)) → AllPlain (option_to_list s) → option_map ref_of (option_and_then (find (moved p)) s) ≡ option_map ref_of (option_and_then (find p) s)
      by None h = refl
      by (Some s) h = ref_same (find p s) (find (moved p) s) (same p is s h.0)

  -- the number of the class above
  pub super_same : (i : ℕ) → super_at (moved p) (refs.User i) ≡ super_at p (refs.User i)
  unfolding moved
  super_same i =
      ap (λ (o : Option CodePart). option_map ref_of (option_and_then (find (moved p)) (option_and_then above (option_map (λ part. User i part.class) o)))) (part_moved p p.parts i)
      ∙ super_by i (slice_get p.parts i) refl
