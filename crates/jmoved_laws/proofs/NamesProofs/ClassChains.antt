-- Along chains of classes: above a class of the library stand such classes alone, and above a user's class those that users may extend.
use Rattle.std.proofs.Common.{◌≡◌, ℕ, zero, suc, Bool, true, false, not, List, Option, Some, None, refl, ap, sym, ◌∙◌, subst}
use Rattle.std.specs.Prelude.{option_and_then, option_map, slice_get, ◌||◌}
use Rattle.std.specs.List.{AllByRecursion, list_any}
use Rattle.std.specs.Str.{bytes_eq}
use Rattle.jclass.specs.declared.class.ClassParts.{ClassParts}
use Rattle.jlib.specs.declared.classes.LibClass.{LibClass}
use Rattle.jlib.specs.declared.side.Side.{Side}
use Rattle.jlib.specs.LibraryClasses as library
use Rattle.jlib.proofs.LibraryLookup.{class_above, class_found, open_above}
use Rattle.jresolution.specs.declared.jprogram.part.CodePart.{CodePart}
use Rattle.jresolution.specs.jprogram.ProgramClasses.{Class, Lib, Program, User, above, above_name, chain, find, holds, onward, up}
use Rattle.jresolution.specs.jprogram.NameChecks.{is_reserved}
use Rattle.jresolution.specs.jprogram.ClassFileParts.{super_name}
use Rattle.jresolution.specs.jprogram.OrderedPrograms.{StandsInOrder}
use Rattle.jresolution.specs.jprogram.SuperChecks.{lists_a_class, super_barred}
use Rattle.jresolution.specs.jprogram.ProofNames.{is_barred}
use Rattle.jresolution.proofs.JprogramProofs.SuperclassOrder.{up_is}
use Rattle.jresolution.proofs.JprogramProofs.NameReachability.{name_is}
use Rattle.jresolution.proofs.JprogramProofs.ClassHeights.{Stands, Users, Libs, Nowhere, any_of_all, lib_find, not_bad, not_taken, or_none, stands}
use Rattle.jrewriting.proofs.JrewriteProofs.Sides.{source_plain}
use Rattle.jrewriting.proofs.JrewriteProofs.HierarchyPhases.{IsPlain, plain_at, text_plain}

-- ---- a front of a chain

onward_within : (P : List ℕ → Type 0) (f g : List ℕ → List (List ℕ)) (o : Option (List ℕ)) → ((a : List ℕ) → AllByRecursion P (g a) → AllByRecursion P (f a)) → AllByRecursion P (onward g o) → AllByRecursion P (onward f o)
onward_within P f g None h all = tt
onward_within P f g (Some a) h all = h a all

pub within : (p : Program) → StandsInOrder p → (P : List ℕ → Type 0) (n : ℕ) (c : List ℕ) → AllByRecursion P (up p c) → AllByRecursion P (chain p n c)
unfolding chain
within p good P zero c all = tt
within p good P (suc n) c all =
    let both = subst (AllByRecursion P) (up_is p good c) all in
    (both.0, onward_within P (chain p n) (up p) (above_name p c) (λ a. within p good P n a) both.1)

-- ---- what stands at a name

pub record LibAt (p : Program) (c : List ℕ) : Type 0 where
  pub one : LibClass
  pub is : find p c ≡ Some (Lib one)

pub record UserAt (p : Program) (c : List ℕ) : Type 0 where
  pub i : ℕ
  pub part : CodePart
  pub at : slice_get p.parts i ≡ Some part
  pub is : find p c ≡ Some (User i part.class)

apart : {P : Type 0} (i : ℕ) (d : ClassParts) (l : LibClass) → User i d ≡ Lib l → P
apart i d l e = absurd cc

pub not_both : {P : Type 0} (p : Program) (c : List ℕ) → LibAt p c → UserAt p c → P
not_both p c l u =
    let same : Some (User u.i u.part.class) ≡ Some (Lib l.one) = sym u.is ∙ l.is in
    let one : User u.i u.part.class ≡ Lib l.one = cc in
    apart u.i u.part.class l.one one

-- ---- above a class of the library

above_lib : (p : Program) → StandsInOrder p → (n : ℕ) (l : LibClass) (o : Option LibClass) → library.superclass l ≡ o → ((a : List ℕ) → LibAt p a → AllByRecursion (LibAt p) (chain p n a))
    → AllByRecursion (LibAt p) (onward (chain p n) (option_map library.name_of o))
above_lib p good n l None e h = tt
above_lib p good n l (Some s) e h = h (library.name_of s) (record { one = s; is = lib_find p (not_taken p good) s ((class_above p.side l s e).1) })

pub lib_along : (p : Program) → StandsInOrder p → (n : ℕ) (c : List ℕ) → LibAt p c → AllByRecursion (LibAt p) (chain p n c)
unfolding chain
lib_along p good zero c l = tt
lib_along p good (suc n) c l =
    (l, subst (λ (o : Option Class). AllByRecursion (LibAt p) (onward (chain p n) (option_and_then above o))) (sym l.is) (above_lib p good n l.one (library.superclass l.one) refl (λ a at. lib_along p good n a at)))

-- no user's class does
pub no_user : {P : Type 0} (p : Program) → StandsInOrder p → (n : ℕ) (c d : List ℕ) → LibAt p c → UserAt p d → list_any (bytes_eq d) (chain p n c) ≡ true → P
no_user {P} p good n c d l u h = any_of_all (bytes_eq d) (LibAt p) (chain p n c) h (lib_along p good n c l) (λ x same at. not_both p d (record { one = at.one; is = ap (find p) (name_is d x same) ∙ at.is }) u)

-- ---- classes that users may extend

-- a name is that of no class of the library, or of one that users may extend
abbrev pub OpenAt : Program → List ℕ → Type 0
OpenAt p c = (l : LibClass) → find p c ≡ Some (Lib l) → library.is_open l ≡ true

pub user_open : (p : Program) (c : List ℕ) → UserAt p c → OpenAt p c
user_open p c u l e = not_both p c (record { one = l; is = e }) u

pub none_open : (p : Program) (c : List ℕ) → find p c ≡ None → OpenAt p c
none_open p c e l is = let no : None ≡ Some (Lib l) = sym e ∙ is in absurd cc

unbarred : (b c : Bool) → (not b || c) ≡ false → b ≡ true
unbarred true c h = refl
unbarred false c h = absurd cc

super_open : (p : Program) (a : List ℕ) (o : Option (List ℕ)) → o ≡ Some a → super_barred p o ≡ false → OpenAt p a
super_open p a o e free l is =
    let one : super_barred p (Some a) ≡ false = ap (super_barred p) (sym e) ∙ free in
    let two : holds is_barred (Some (Lib l)) ≡ false = ap (holds is_barred) (sym is) ∙ one in
    unbarred (library.is_open l) (library.is_interface l) two

above_named : (l : LibClass) (o : Option LibClass) (a : List ℕ) → option_map library.name_of o ≡ Some a → (s : LibClass) × (o ≡ Some s) × (library.name_of s ≡ a)
above_named l None a e = absurd cc
above_named l (Some s) a e = (s, refl, cc)

open_one : (p : Program) (a : List ℕ) (s : LibClass) → find p a ≡ Some (Lib s) → library.is_open s ≡ true → OpenAt p a
open_one p a s at opened l is =
    let both : Some (Lib s) ≡ Some (Lib l) = sym at ∙ is in
    let same : s ≡ l = cc in
    subst (λ (x : LibClass). library.is_open x ≡ true) same opened

open_next : (p : Program) → StandsInOrder p → (c a : List ℕ) → Stands p c → OpenAt p c → above_name p c ≡ Some a → OpenAt p a
open_next p good c a (Users i part at name is) opened e =
    let bad = or_none (super_barred p (super_name part.class)) (lists_a_class p part.class || _) (not_bad p good i part at) in
    super_open p a (super_name part.class) (sym (ap (option_and_then above) is) ∙ e) bad.0
open_next p good c a (Libs l named is) opened e =
    let s = above_named l (library.superclass l) a (sym (ap (option_and_then above) is) ∙ e) in
    let at : find p a ≡ Some (Lib s.0) = ap (find p) (sym s.2) ∙ lib_find p (not_taken p good) s.0 ((class_above p.side l s.0 s.1).1) in
    open_one p a s.0 at (open_above l s.0 s.1 (opened l is))
open_next p good c a (Nowhere none) opened e =
    let no : None ≡ Some a = sym (ap (option_and_then above) none) ∙ e in
    absurd cc

open_onward : (p : Program) → StandsInOrder p → (n : ℕ) (c : List ℕ) (o : Option (List ℕ)) → above_name p c ≡ o → OpenAt p c → ((a : List ℕ) → OpenAt p a → AllByRecursion (OpenAt p) (chain p n a)) → AllByRecursion (OpenAt p) (onward (chain p n) o)
open_onward p good n c None e opened h = tt
open_onward p good n c (Some a) e opened h = h a (open_next p good c a (stands p c) opened e)

pub open_along : (p : Program) → StandsInOrder p → (n : ℕ) (c : List ℕ) → OpenAt p c → AllByRecursion (OpenAt p) (chain p n c)
unfolding chain
open_along p good zero c opened = tt
open_along p good (suc n) c opened = (opened, open_onward p good n c (above_name p c) refl opened (λ a is. open_along p good n a is))

pub open_above_it : (p : Program) → StandsInOrder p → (n : ℕ) (c : List ℕ) → OpenAt p c → AllByRecursion (OpenAt p) (onward (chain p n) (above_name p c))
open_above_it p good n c opened = open_onward p good n c (above_name p c) refl opened (open_along p good n)

-- ---- what is found isn't kept

pub found_plain : (p : Program) → IsPlain p → (c : List ℕ) (k : Class) → find p c ≡ Some k → is_reserved c ≡ false
found_plain p is c k e = by (stands p c)
  where
    by : Stands p c → is_reserved c ≡ false
    by (Users i part at name here) =
        let x = plain_at p is i part at in
        ap is_reserved (sym name) ∙ text_plain part.class part.class.this_class x.kept x.named.this
    by (Libs l named here) =
        let f = class_found p.side c l named in
        ap is_reserved (sym f.0) ∙ source_plain l (ap (λ (s : Side). library.stands_on s l) (sym is.source) ∙ f.1)
    by (Nowhere none) = let no : None ≡ Some k = sym none ∙ e in absurd cc
