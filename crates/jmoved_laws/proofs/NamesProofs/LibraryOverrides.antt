-- No method of the library stands in the way: a class may declare none that one above it has fixed, and an interface none that any opened class has.
use Rattle.std.proofs.Common.{◌≡◌, ℕ, zero, suc, Bool, true, false, ◌&&◌, List, [], ◌∷◌, Option, Some, None, refl, ap, sym, ◌∙◌, subst, inl, inr}
use Rattle.std.specs.Prelude.{option_and_then, option_map, slice_get, ◌||◌, if◌then◌else◌}
use Rattle.std.specs.List.{AllByRecursion, filter, list_any, position}
use Rattle.std.specs.List as lists
use Rattle.std.specs.Str.{bytes_eq}
use Rattle.std.proofs.lemmas.Bool.{and_parts}
use Rattle.jlib.specs.declared.classes.LibClass.{LibClass}
use Rattle.jlib.specs.declared.classes.LibClass.TheVariants as lib
use Rattle.jlib.specs.declared.classes.PermissionClass.TheVariants as permission
use Rattle.jlib.specs.declared.classes.Thrown.TheVariants as thrown
use Rattle.jlib.specs.declared.calls.LibCall.{LibCall}
use Rattle.jlib.specs.declared.side.Side.{Side}
use Rattle.jlib.specs.declared.side.Side.TheVariants.{Passing}
use Rattle.jlib.specs.LibraryMembers as library_calls
use Rattle.jlib.specs.LibraryMembers.{call_stands_on, fixes, is_concrete, member_among, member_named, members, name_of_call, owner}
use Rattle.jlib.specs.LibraryClasses as library
use Rattle.jlib.specs.LibraryClasses.{class_named, is_open, stands_on}
use Rattle.jlib.proofs.NamePrefixes.{by_class}
use Rattle.jlib.proofs.LibraryLookup.{call_found, class_found, class_only, found_passes}
use Rattle.jlinking.specs.jmembers.MemberDeclarations.{is_fixed_by}
use Rattle.jlinking.specs.ProofNames.{is_fixed_at}
use Rattle.jresolution.specs.declared.jprogram.member.Member.TheVariants.{LibMethod, Method}
use Rattle.jresolution.specs.declared.jprogram.member.MethodId.{MethodId}
use Rattle.jresolution.specs.declared.jprogram.part.CodePart.{CodePart}
use Rattle.jresolution.specs.jprogram.ProgramClasses.{Class, Lib, Program, User, above_name, above, chain, find, onward, up}
use Rattle.jresolution.specs.jprogram.MemberResolution.{init, lib_method, method_at, method_id, method_in}
use Rattle.jresolution.specs.jprogram.ClassFileParts as parts
use Rattle.jresolution.specs.jprogram.ClassFileParts.{super_name}
use Rattle.jresolution.specs.jprogram.OrderedPrograms.{StandsInOrder}
use Rattle.jresolution.proofs.JprogramProofs.CycleSearch.{all_weaken, or_split}
use Rattle.jresolution.proofs.JprogramProofs.InterfaceSearch.{some_is}
use Rattle.jresolution.proofs.JprogramProofs.NameReachability.{clash, name_is}
use Rattle.jresolution.proofs.JprogramProofs.ClassHeights.{Stands, Users, Libs, Nowhere, stands}
use Rattle.jlinking.proofs.JlinkProofs.PresentValues.{map_is, then_is}
use Rattle.jmoved_laws.specs.names.ShadowedMethods.{IsClear, IsClearAt}
use Rattle.jmoved_laws.proofs.NamesProofs.ClassChains.{OpenAt, UserAt, no_user, not_both, open_above_it, open_along, user_open, within}
use Rattle.jmoved_laws.proofs.NamesProofs.LibraryMembers.{open_concrete}

-- ---- which class of the library

passing_all : (c : LibClass) → stands_on Passing c ≡ true
passing_all lib.Object = refl
passing_all (lib.Thrown thrown.Throwable) = refl
passing_all (lib.Permission permission.Permission) = refl
passing_all c = refl

-- no two have one name
pub one_named : (a c : LibClass) → library.name_of a ≡ library.name_of c → a ≡ c
one_named a c e = some_is a c (sym (class_only Passing a (passing_all a)) ∙ ap (class_named Passing) e ∙ class_only Passing c (passing_all c))

-- ---- what a class declares

-- a method of the library that was found
pub record LibFound (p : Program) (name desc c : List ℕ) (x : LibCall) : Type 0 where
  pub l : LibClass
  pub is : find p c ≡ Some (Lib l)
  pub named : library.name_of l ≡ c
  pub there : member_named p.side (library.name_of l) name desc ≡ Some x
  pub owned : owner x ≡ l
  pub name_is : name_of_call x ≡ name
  pub desc_is : library_calls.desc_of x ≡ desc
  pub on : call_stands_on p.side x ≡ true

method_of_lib : (b : Bool) (m x : LibCall) → (if b then None else Some (LibMethod m)) ≡ Some (LibMethod x) → m ≡ x
method_of_lib true m x h = absurd cc
method_of_lib false m x h = cc

user_no_lib : {P : Type 0} (i : ℕ) (o : Option ℕ) (x : LibCall) → option_map (λ j. Method (method_id i j)) o ≡ Some (LibMethod x) → P
user_no_lib i None x e = absurd cc
user_no_lib i (Some j) x e = absurd cc

lib_no_user : {P : Type 0} (o : Option LibCall) (m : MethodId) → option_and_then lib_method o ≡ Some (Method m) → P
lib_no_user {P} None m e = absurd cc
lib_no_user {P} (Some x) m e = by (library_calls.is_field x) e
  where
    by : (b : Bool) → (if b then None else Some (LibMethod x)) ≡ Some (Method m) → P
    by true h = absurd cc
    by false h = absurd cc

pub lib_found : (p : Program) (name desc c : List ℕ) (x : LibCall) → method_at p name desc c ≡ Some (LibMethod x) → LibFound p name desc c x
lib_found p name desc c x e = by (stands p c)
  where
    by : Stands p c → LibFound p name desc c x
    by (Users i part at own is) = user_no_lib i (position (parts.is_called part.class name desc) part.class.methods) x (sym (ap (option_and_then (λ d. method_in p.side d name desc)) is) ∙ e)
    by (Libs l named is) =
        let m = then_is lib_method (member_named p.side (library.name_of l) name desc) (LibMethod x) (sym (ap (option_and_then (λ d. method_in p.side d name desc)) is) ∙ e) in
        let there : member_named p.side (library.name_of l) name desc ≡ Some x = m.1 ∙ ap (λ (y : LibCall). Some y) (method_of_lib (library_calls.is_field m.0) m.0 x m.2) in
        let found = call_found p.side (library.name_of l) name desc x there in
        record { l = l; is = is; named = (class_found p.side c l named).0; there = there; owned = one_named (owner x) l found.0; name_is = found.1; desc_is = found.2; on = found.3 }
    by (Nowhere none) =
        let no : None ≡ Some (LibMethod x) = sym (ap (option_and_then (λ d. method_in p.side d name desc)) none) ∙ e in
        absurd cc

-- a user's method that was found
pub record UserFound (p : Program) (name desc c : List ℕ) (m : MethodId) : Type 0 where
  pub part : CodePart
  pub at : slice_get p.parts m.class ≡ Some part
  pub is : find p c ≡ Some (User m.class part.class)
  pub first : position (parts.is_called part.class name desc) part.class.methods ≡ Some m.method

pub user_found : (p : Program) (name desc c : List ℕ) (m : MethodId) → method_at p name desc c ≡ Some (Method m) → UserFound p name desc c m
user_found p name desc c m e = by (stands p c)
  where
    same : (i j : ℕ) → Method (method_id i j) ≡ Method m → method_id i j ≡ m
    same i j h = cc

    by : Stands p c → UserFound p name desc c m
    by (Users i part at own is) =
        let r = map_is (λ j. Method (method_id i j)) (position (parts.is_called part.class name desc) part.class.methods) (Method m) (sym (ap (option_and_then (λ d. method_in p.side d name desc)) is) ∙ e) in
        subst (UserFound p name desc c) (same i r.0 r.2) (record { part = part; at = at; is = is; first = r.1 })
    by (Libs l named is) = lib_no_user (member_named p.side (library.name_of l) name desc) m (sym (ap (option_and_then (λ d. method_in p.side d name desc)) is) ∙ e)
    by (Nowhere none) =
        let no : None ≡ Some (Method m) = sym (ap (option_and_then (λ d. method_in p.side d name desc)) none) ∙ e in
        absurd cc

-- ---- what an opened class fixes

found_by : {A : Type 0} (p t : A → Bool) (y x : A) (ys : List A) (b : Bool) → (if b then Some y else lists.find p ys) ≡ Some x → t x ≡ true → (lists.find p ys ≡ Some x → list_any t ys ≡ true) → (t y || list_any t ys) ≡ true
found_by p t y x ys true e h more =
    let same : y ≡ x = cc in
    rw (same, h) refl
found_by p t y x ys false e h more = rw (more e) (or_true (t y))
  where
    or_true : (b : Bool) → (b || true) ≡ true
    or_true true = refl
    or_true false = refl

found_any : {A : Type 0} (p t : A → Bool) (xs : List A) (x : A) → lists.find p xs ≡ Some x → t x ≡ true → list_any t xs ≡ true
found_any p t [] x e h = absurd cc
found_any p t (y ∷ ys) x e h = found_by p t y x ys (p y) e h (λ k. found_any p t ys x k h)

-- an opened class fixes what it declares
pub fixes_found : (side : Side) (name desc : List ℕ) (c : LibClass) (y : LibCall) → is_open c ≡ true → bytes_eq name init ≡ false → owner y ≡ c → name_of_call y ≡ name → member_named side (library.name_of c) name desc ≡ Some y → fixes name desc c ≡ true
fixes_found side name desc c y opened plain owned called e =
    let among : member_among side name desc (members c) ≡ Some y = by_class side c name desc ∙ e in
    let both = and_parts (call_stands_on side y) (library_calls.is_called name desc y) (found_passes (λ m. call_stands_on side m && library_calls.is_called name desc m) (members c) y among) in
    let concrete = open_concrete y (ap is_open owned ∙ opened) (ap (λ (n : List ℕ). bytes_eq n init) called ∙ plain) in
    let one : (is_concrete y && library_calls.is_called name desc y) ≡ true = rw (concrete, both.1) refl in
    rw (opened) (found_any (λ m. call_stands_on side m && library_calls.is_called name desc m) (λ m. is_concrete m && library_calls.is_called name desc m) (members c) y among one)

-- so nothing of it stands in the way of what is not fixed
pub clear_at : (p : Program) (name desc c : List ℕ) → bytes_eq name init ≡ false → OpenAt p c → is_fixed_at p name desc c ≡ false → IsClearAt p name desc c
clear_at p name desc c plain opened free x e =
    let f = lib_found p name desc c x e in
    let fixed : is_fixed_at p name desc c ≡ true = ap (λ (o : Option Class). is_fixed_by name desc o) f.is ∙ fixes_found p.side name desc f.l x (opened f.l f.is) plain f.owned f.name_is f.there in
    clash (is_fixed_at p name desc c) fixed free

-- ---- below a class

user_clear : (p : Program) (name desc c : List ℕ) → UserAt p c → IsClearAt p name desc c
user_clear p name desc c u x e = let f = lib_found p name desc c x e in not_both p c (record { one = f.l; is = f.is }) u

all_both : (p : Program) (name desc : List ℕ) → bytes_eq name init ≡ false → (xs : List (List ℕ)) → AllByRecursion (OpenAt p) xs → AllByRecursion (λ c. is_fixed_at p name desc c ≡ false) xs → IsClear p name desc xs
all_both p name desc plain [] opened free = tt
all_both p name desc plain (c ∷ xs) opened free = (clear_at p name desc c plain opened.0 free.0, all_both p name desc plain xs opened.1 free.1)

pub onward_free : (p : Program) → StandsInOrder p → (P : List ℕ → Type 0) (n : ℕ) (o : Option (List ℕ)) → AllByRecursion P (onward (up p) o) → AllByRecursion P (onward (chain p n) o)
onward_free p good P n None all = tt
onward_free p good P n (Some a) all = within p good P n a all

-- nothing stands in the way of a method that a class declares, along a chain on which it stands
module _ (p : Program) (good : StandsInOrder p) (name desc d : List ℕ) (plain : bytes_eq name init ≡ false) (u : UserAt p d) (free : AllByRecursion (λ c. is_fixed_at p name desc c ≡ false) (onward (up p) (super_name u.part.class))) where
  above_is : above_name p d ≡ super_name u.part.class
  above_is = ap (option_and_then above) u.is

  from_it : (n : ℕ) → IsClear p name desc (onward (chain p n) (above_name p d))
  from_it n =
      all_both p name desc plain (onward (chain p n) (above_name p d)) (open_above_it p good n d (user_open p d u))
      (subst (λ (o : Option (List ℕ)). AllByRecursion (λ c. is_fixed_at p name desc c ≡ false) (onward (chain p n) o)) (sym above_is) (onward_free p good (λ c. is_fixed_at p name desc c ≡ false) n (super_name u.part.class) free))

  onward_clear : (n : ℕ) (o : Option (List ℕ)) → ((a : List ℕ) → list_any (bytes_eq d) (chain p n a) ≡ true → IsClear p name desc (chain p n a)) → list_any (bytes_eq d) (onward (chain p n) o) ≡ true → IsClear p name desc (onward (chain p n) o)
  onward_clear n None h far = absurd cc
  onward_clear n (Some a) h far = h a far

  pub class_clear : (n : ℕ) (c : List ℕ) → list_any (bytes_eq d) (chain p n c) ≡ true → IsClear p name desc (chain p n c)
  unfolding chain
  class_clear zero c h = absurd cc
  class_clear (suc n) c h = elim (or_split (bytes_eq d c) (list_any (bytes_eq d) (onward (chain p n) (above_name p c))) h) [
    | inl same ↦ subst (λ (x : List ℕ). IsClear p name desc (x ∷ onward (chain p n) (above_name p x))) (name_is d c same) (user_clear p name desc d u, from_it n)
    | inr far ↦ (
      λ x e. (let f = lib_found p name desc c x e in no_user p good (suc n) c d (record { one = f.l; is = f.is }) u h),
      onward_clear n (above_name p c) (λ a. class_clear n a) far,
    )
  ]

-- ---- of an interface

among_if : (t : LibClass → Bool) (c : LibClass) (xs : List LibClass) (rest b : Bool) → list_any t xs ≡ rest → list_any t (if b then c ∷ xs else xs) ≡ ((b && t c) || rest)
among_if t c xs rest true e = ap (λ (b : Bool). t c || b) e
among_if t c xs rest false e = e

open_among : (t : LibClass → Bool) (l : LibClass) (xs : List LibClass) → list_any t (filter is_open xs) ≡ list_any (λ c. is_open c && t c) xs
open_among t l [] = refl
open_among t l (c ∷ xs) = among_if t c (filter is_open xs) (list_any (λ d. is_open d && t d) xs) (is_open c) (open_among t l xs)

-- what holds of no opened class doesn't hold of this one
pub open_in : (t : LibClass → Bool) (l : LibClass) → is_open l ≡ true → t l ≡ true → list_any t library.open_classes ≡ true
open_in t l opened h =
    let at : lists.find (λ c. stands_on Passing c && bytes_eq (library.name_of l) (library.name_of c)) library.classes ≡ Some l = class_only Passing l (passing_all l) in
    let both : (is_open l && t l) ≡ true = rw (opened, h) refl in
    open_among t l library.classes ∙ found_any (λ c. stands_on Passing c && bytes_eq (library.name_of l) (library.name_of c)) (λ c. is_open c && t c) library.classes l at both

face_clear_at : (p : Program) (name desc c : List ℕ) → bytes_eq name init ≡ false → list_any (fixes name desc) library.open_classes ≡ false → OpenAt p c → IsClearAt p name desc c
face_clear_at p name desc c plain free opened x e =
    let f = lib_found p name desc c x e in
    clash (list_any (fixes name desc) library.open_classes) (open_in (fixes name desc) f.l (opened f.l f.is) (fixes_found p.side name desc f.l x (opened f.l f.is) plain f.owned f.name_is f.there)) free

-- nothing stands in the way of a method that an interface declares, along a chain of classes that users may extend
pub face_clear : (p : Program) → StandsInOrder p → (name desc : List ℕ) → bytes_eq name init ≡ false → list_any (fixes name desc) library.open_classes ≡ false → (n : ℕ) (c : List ℕ) → OpenAt p c → IsClear p name desc (chain p n c)
face_clear p good name desc plain free n c opened = all_weaken (OpenAt p) (IsClearAt p name desc) (λ x is. face_clear_at p name desc x plain free is) (chain p n c) (open_along p good n c opened)
