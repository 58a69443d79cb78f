-- What a call meets along the chain of an object: of a method that is handed a context no method of the library stands in the way, and one that
-- is handed none is found as it was.
use Rattle.std.proofs.Common.{◌≡◌, ℕ, ◌+◌, Bool, true, false, List, [], ◌∷◌, length, Option, Some, None, refl, ap, sym, ◌∙◌, subst, inl, inr}
use Rattle.std.specs.Prelude.{◌⊎◌, option_and_then, codes, ◌||◌}
use Rattle.std.specs.List.{AllByRecursion, list_any}
use Rattle.std.specs.Str.{bytes_eq}
use Rattle.std.proofs.lemmas.Bool.{and_parts}
use Rattle.std.proofs.lemmas.Slice.Eq.{bytes_eq-Decides}
use Rattle.jlib.specs.declared.classes.LibClass.{LibClass}
use Rattle.jlib.specs.declared.classes.LibClass.TheVariants as lib
use Rattle.jlib.specs.declared.calls.LibCall.{LibCall}
use Rattle.jlib.specs.declared.side.Side.{Side}
use Rattle.jlib.specs.LibraryMembers as library
use Rattle.jlib.specs.LibraryMembers.{is_concrete}
use Rattle.jlib.specs.LibraryClasses as library_classes
use Rattle.jlinking.specs.jmembers.MemberDeclarations.{is_fixed}
use Rattle.jlinking.specs.jlink.LinkedPrograms.{Links}
use Rattle.jlinking.proofs.JlinkProofs.MethodSelection.{first_called}
use Rattle.jresolution.specs.declared.jprogram.member.Member.TheVariants.{LibMethod, Method}
use Rattle.jresolution.specs.declared.jprogram.member.MethodId.{MethodId}
use Rattle.jresolution.specs.jprogram.ProgramClasses.{Class, Lib, Program, above, extends, find, holds, is_interface, known, object, onward, superinterfaces, up}
use Rattle.jresolution.specs.jprogram.MemberResolution.{init}
use Rattle.jresolution.specs.jprogram.NameChecks.{is_reserved}
use Rattle.jresolution.specs.jprogram.ClassFileParts as parts
use Rattle.jresolution.specs.jprogram.ClassFileParts.{member_desc, member_name}
use Rattle.jresolution.specs.jprogram.OrderedPrograms.{StandsInOrder}
use Rattle.jresolution.proofs.JprogramProofs.CycleSearch.{or_split}
use Rattle.jresolution.proofs.JprogramProofs.SuperclassOrder.{extends_chain, interfaces_extend, object_find, object_up, up_is}
use Rattle.jresolution.proofs.JprogramProofs.NameReachability.{clash, name_is}
use Rattle.jresolution.proofs.JprogramProofs.ClassHeights.{any_of_all}
use Rattle.jrewriting.proofs.JrewriteProofs.FinalOverrides.{AllMoving}
use Rattle.jrewriting.proofs.JrewriteProofs.HierarchyPhases.{IsPlain}
use Rattle.jmoved_laws.specs.names.ShadowedMethods.{IsClear}
use Rattle.jmoved_laws.specs.names.MovedLookUps.{library_handed}
use Rattle.jmoved_laws.proofs.NamesProofs.ClassChains.{LibAt, OpenAt, UserAt, found_plain, lib_along, not_both}
use Rattle.jmoved_laws.proofs.NamesProofs.LibraryOverrides.{LibFound, UserFound, class_clear, face_clear, lib_found, one_named, user_found}
use Rattle.jmoved_laws.proofs.NamesProofs.ForbiddenMethods.{class_fixed, face_fixed, not_fixed_at}
use Rattle.jmoved_laws.proofs.NamesProofs.LibraryMembers.{concrete_below, face_handed, run_handed}
use Rattle.jmoved_laws.proofs.NamesProofs.MethodResolution.{Resolved, lib_above, lib_place, place_is}
use Rattle.jmoved_laws.proofs.NamesProofs.ContextFreeLookup.{StaysAt, stays_along}

-- ---- chains

-- what extends another class has it in its chain, or that is Object
pub extends_parts : (p : Program) (c d : List ℕ) → extends p c d ≡ true → (d ≡ object) ⊎ (list_any (bytes_eq d) (up p c) ≡ true)
unfolding extends
extends_parts p c d h = elim (or_split (bytes_eq d object) (list_any (bytes_eq d) (up p c)) h) [ inl same ↦ inl (name_is d object same) | inr far ↦ inr far ]

-- a name that isn't found stands alone
none_above : (p : Program) (good : StandsInOrder p) (c : List ℕ) → find p c ≡ None → up p c ≡ c ∷ []
none_above p good c e = up_is p good c ∙ ap (λ (o : Option Class). c ∷ onward (up p) (option_and_then above o)) e

found_or : (p : Program) (is : IsPlain p) (c : List ℕ) (o : Option Class) → find p c ≡ o → (find p c ≡ None) ⊎ (is_reserved c ≡ false)
found_or p is c None e = inl e
found_or p is c (Some k) e = inr (found_plain p is c k e)

one_only : (a : Bool) → (a || false) ≡ true → a ≡ true
one_only true e = refl
one_only false e = absurd cc

-- what extends a class that isn't kept isn't kept
pub plain_below : (p : Program) (is : IsPlain p) (good : StandsInOrder p) (c d : List ℕ) → is_reserved d ≡ false → list_any (bytes_eq d) (up p c) ≡ true → is_reserved c ≡ false
plain_below p is good c d plain h = elim (found_or p is c (find p c) refl) [
  | inl none ↦ (
      let one : (bytes_eq d c || false) ≡ true = subst (λ (xs : List (List ℕ)). list_any (bytes_eq d) xs ≡ true) (none_above p good c none) h in
      ap is_reserved (sym (name_is d c (one_only (bytes_eq d c) one))) ∙ plain
      )
  | inr here ↦ here
]

-- ---- what a call of a method meets

-- a name that isn't kept, along whose chain nothing stands in the way
pub record Meets (p : Program) (name desc c : List ℕ) : Type 0 where
  pub plain : is_reserved c ≡ false
  pub clear : IsClear p name desc (up p c)

module _ (p : Program) (is : IsPlain p) (good : StandsInOrder p) (links : Links p) (name desc : List ℕ) (plain_name : bytes_eq name init ≡ false) (owner : List ℕ) (plain : is_reserved owner ≡ false) where
  lib_open : (c : List ℕ) → (LibAt p c → false ≡ true) → OpenAt p c
  lib_open c none l e = let no = none (record { one = l; is = e }) in absurd cc

  object_lib : LibAt p object
  object_lib = record { one = lib.Object; is = object_find p good }

  module _ (m : MethodId) (r : Resolved p owner name desc (Method m)) where
    abbrev found : UserFound p name desc r.class m
    found = user_found p name desc r.class m r.here

    abbrev user : UserAt p r.class
    user = record { i = m.class; part = found.part; at = found.at; is = found.is }

    -- the class by which it is named isn't the library's
    pub not_lib : {P : Type 0} → LibAt p owner → P
    not_lib l = not_both p r.class (lib_place p good owner r.class l r.place) user

    not_object : {P : Type 0} → owner ≡ object → P
    not_object e = not_lib (subst (LibAt p) (sym e) object_lib)

    class_not_object : {P : Type 0} → r.class ≡ object → P
    class_not_object e = not_both p object object_lib (subst (UserAt p) e user)

    -- nor does a class of the library extend it
    lib_extends : {P : Type 0} (c : List ℕ) → LibAt p c → list_any (bytes_eq owner) (up p c) ≡ true → P
    lib_extends {P} c l h = not_lib (any_of_all (bytes_eq owner) (LibAt p) (up p c) h (lib_along p good (length (known p) + 1) c l) (λ x same at. subst (LibAt p) (sym (name_is owner x same)) at))

    open_below : (c : List ℕ) → list_any (bytes_eq owner) (up p c) ≡ true → OpenAt p c
    open_below c h = lib_open c (λ l. lib_extends c l h)

    free : is_fixed p found.part.class name desc ≡ false
    free =
        let c = found.part.class in
        let x = first_called c name desc c.methods m.method found.first in
        let both = and_parts (bytes_eq (member_name c x.0) name) (bytes_eq (member_desc c x.0) desc) x.2 in
        ap (λ (t : List ℕ). is_fixed p c t desc) (sym ((bytes_eq-Decides (member_name c x.0) name).0 both.0))
        ∙ ap (is_fixed p c (member_name c x.0)) (sym ((bytes_eq-Decides (member_desc c x.0) desc).0 both.1))
        ∙ not_fixed_at p m.class m.method found.part x.0 links found.at x.1

    -- of an interface's method, along what users may extend
    face_meets : (c : List ℕ) → parts.is_interface found.part.class.flags ≡ true → OpenAt p c → IsClear p name desc (up p c)
    face_meets c face opened = face_clear p good name desc plain_name (face_fixed p found.part.class name desc face free) (length (known p) + 1) c opened

    -- of a class's, along what extends it
    class_meets : (c : List ℕ) → parts.is_interface found.part.class.flags ≡ false → list_any (bytes_eq r.class) (up p c) ≡ true → IsClear p name desc (up p c)
    class_meets c face h = class_clear p good name desc r.class plain_name user (class_fixed p found.part.class name desc face free) (length (known p) + 1) c h

    class_place : parts.is_interface found.part.class.flags ≡ false → extends p owner r.class ≡ true
    class_place face = elim (place_is p good owner r.class r.place) [
      | inl up ↦ up
      | inr over ↦ clash (parts.is_interface found.part.class.flags) (sym (ap (holds is_interface) found.is) ∙ over) face
    ]

    below_meets : (c : List ℕ) (b : Bool) → parts.is_interface found.part.class.flags ≡ b → list_any (bytes_eq owner) (up p c) ≡ true → extends p c owner ≡ true → IsClear p name desc (up p c)
    below_meets c true face h ext = face_meets c face (open_below c h)
    below_meets c false face h ext = elim (extends_parts p c r.class (extends_chain p good c owner r.class ext (class_place face))) [
      | inl top ↦ class_not_object top
      | inr far ↦ class_meets c face far
    ]

    -- along the chain of a class that extends the one by which it is named
    pub user_meets : (c : List ℕ) → extends p c owner ≡ true → Meets p name desc c
    user_meets c ext = elim (extends_parts p c owner ext) [
      | inl top ↦ not_object top
      | inr far ↦ record { plain = plain_below p is good c owner plain far; clear = below_meets c (parts.is_interface found.part.class.flags) refl far ext }
    ]

    -- along that of a class that has the interface by which it is named
    face_only : holds is_interface (find p owner) ≡ true → (b : Bool) → parts.is_interface found.part.class.flags ≡ b → parts.is_interface found.part.class.flags ≡ true
    face_only face true e = e
    face_only face false e = elim (interfaces_extend p good (record { 0 = owner }) (record { 0 = r.class }) face (class_place e)) [
      | inl over ↦ clash (parts.is_interface found.part.class.flags) (sym (ap (holds is_interface) found.is) ∙ over) e
      | inr top ↦ class_not_object top
    ]

    has_open : (c : List ℕ) → list_any (λ x. list_any (bytes_eq owner) (superinterfaces p x)) (up p c) ≡ true → OpenAt p c
    has_open c h = lib_open c (λ l. any_of_all (λ x. list_any (bytes_eq owner) (superinterfaces p x)) (LibAt p) (up p c) h (lib_along p good (length (known p) + 1) c l) (λ x has at.
        any_of_all (bytes_eq owner) (LibAt p) (superinterfaces p x) has (lib_above p good x at) (λ y same here. not_lib (subst (LibAt p) (sym (name_is owner y same)) here))))

    pub user_has : (c : List ℕ) → holds is_interface (find p owner) ≡ true → list_any (λ x. list_any (bytes_eq owner) (superinterfaces p x)) (up p c) ≡ true → is_reserved c ≡ false → Meets p name desc c
    user_has c face h kept = record { plain = kept; clear = face_meets c (face_only face (parts.is_interface found.part.class.flags) refl) (has_open c h) }

  -- ---- both `run`

  pub run_clear : name ≡ codes "run" → (xs : List (List ℕ)) → IsClear p name desc xs
  run_clear e [] = tt
  run_clear e (c ∷ xs) = (
    λ x h. (
        let f = lib_found p name desc c x h in
        run_handed x ((bytes_eq-Decides (codes "run") (library.name_of_call x)).1 (sym (f.name_is ∙ e)))
        ),
    run_clear e xs,
  )

-- ---- what is handed none

module _ (p : Program) (is : IsPlain p) (good : StandsInOrder p) (links : Links p) (all : AllMoving p) (y : LibCall) (owner : List ℕ) (alone : library_handed y ≡ false) (concrete : is_concrete y ≡ true)
    (plain_name : bytes_eq (library.name_of_call y) init ≡ false) (r : Resolved p owner (library.name_of_call y) (library.desc_of y) (LibMethod y)) where
  abbrev lib_one : LibFound p (library.name_of_call y) (library.desc_of y) r.class y
  lib_one = lib_found p (library.name_of_call y) (library.desc_of y) r.class y r.here

  own_class : library_classes.name_of (library.owner y) ≡ r.class
  own_class = ap library_classes.name_of lib_one.owned ∙ lib_one.named

  own_find : find p (library_classes.name_of (library.owner y)) ≡ Some (Lib (library.owner y))
  own_find = ap (find p) own_class ∙ lib_one.is ∙ ap (λ (c : LibClass). Some (Lib c)) (sym lib_one.owned)

  not_face : {P : Type 0} → holds is_interface (find p r.class) ≡ true → P
  not_face face = clash (library_handed y) (face_handed y (ap library_classes.is_interface lib_one.owned ∙ sym (ap (holds is_interface) lib_one.is) ∙ face)) alone

  own_place : extends p owner r.class ≡ true
  own_place = elim (place_is p good owner r.class r.place) [ inl up ↦ up | inr over ↦ not_face over ]

  not_top : {P : Type 0} → r.class ≡ object → P
  not_top e = concrete_below y concrete (one_named (library.owner y) lib.Object (own_class ∙ e))

  -- it is called by no interface
  pub alone_face : {P : Type 0} → holds is_interface (find p owner) ≡ true → P
  alone_face face = elim (interfaces_extend p good (record { 0 = owner }) (record { 0 = r.class }) face own_place) [ inl over ↦ not_face over | inr top ↦ not_top top ]

  pub alone_stays : (c : List ℕ) → extends p c owner ≡ true → AllByRecursion (StaysAt p (library.name_of_call y) (library.desc_of y)) (up p c)
  alone_stays c ext = elim (extends_parts p c r.class (extends_chain p good c owner r.class ext own_place)) [
    | inl top ↦ not_top top
    | inr far ↦ stays_along p is good links all y concrete plain_name (ap (λ (s : Side). library.call_stands_on s y) (sym is.source) ∙ lib_one.on) own_find (length (known p) + 1) c
        (subst (λ (x : List ℕ). list_any (bytes_eq x) (up p c) ≡ true) (sym own_class) far)
  ]

  pub alone_plain : (c : List ℕ) → extends p c owner ≡ true → is_reserved owner ≡ false → is_reserved c ≡ false
  alone_plain c ext plain = elim (extends_parts p c r.class (extends_chain p good c owner r.class ext own_place)) [
    | inl top ↦ not_top top
    | inr far ↦ plain_below p is good c r.class (found_plain p is r.class (Lib lib_one.l) lib_one.is) far
  ]

  -- nor by Object
  top_only : (c : List ℕ) → list_any (bytes_eq c) (up p object) ≡ true → c ≡ object
  top_only c h = name_is c object (one_only (bytes_eq c object) (subst (λ (xs : List (List ℕ)). list_any (bytes_eq c) xs ≡ true) (object_up p good) h))

  pub alone_top : {P : Type 0} → owner ≡ object → P
  alone_top e = elim (extends_parts p owner r.class own_place) [
    | inl top ↦ not_top top
    | inr far ↦ not_top (top_only r.class (subst (λ (o : List ℕ). list_any (bytes_eq r.class) (up p o) ≡ true) e far))
  ]
