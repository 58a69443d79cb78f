-- In a program whose classes stand in order what stands above a class is found, and no class stands above itself. So each has a height:
-- how many of the known names are reached from it.
use Rattle.std.proofs.Common.{◌≡◌, ℕ, zero, suc, ◌<◌, ◌≤◌, ◌||◌, ◌&&◌, Bool, true, false, List, [], ◌∷◌, ◌++◌, length, map, get_or, Option, Some, None, refl, sym, ap, subst, ◌∙◌, arith, inl, inr}
use Rattle.std.specs.Prelude.{IsTrue, is_some, nat_lt, not, option_map, slice_get}
use Rattle.std.specs.Option.{option_to_list}
use Rattle.std.specs.List.{list_all, list_any, AllByRecursion}
use Rattle.std.specs.Str.{bytes_eq}
use Rattle.std.proofs.lemmas.Bool.{lt-ltb}
use Rattle.std.proofs.lemmas.Option.{get_or_from_slice_get}
use Rattle.jground.specs.jbase.FirstFaults.{fault_if, or_else}
use Rattle.jground.proofs.JbaseProofs.Firsts.{none_fails, none_of}
use Rattle.jground.proofs.JformatProofs.ReadingSteps.{both}
use Rattle.jclass.specs.declared.class.ClassParts.{ClassParts}
use Rattle.jlib.specs.declared.classes.LibClass.{LibClass}
use Rattle.jlib.specs.declared.classes.LibClass.TheVariants as lib
use Rattle.jlib.specs.LibraryClasses as library
use Rattle.jlib.proofs.LibraryLookup.{class_above, class_implements, class_only, lower, top_is}
use Rattle.jresolution.specs.declared.jprogram.part.CodePart.{CodePart}
use Rattle.jresolution.specs.declared.jprogram.fault.LinkKind.{LinkKind}
use Rattle.jresolution.specs.declared.jprogram.fault.LinkKind.TheVariants.{BadSuper, Circular, NoClass, Twice}
use Rattle.jresolution.specs.jprogram.ClassFileParts as parts
use Rattle.jresolution.specs.jprogram.ClassFileParts.{class_text, interface_names, super_name, this_name}
use Rattle.jresolution.specs.jprogram.DirectSupers.{supers_of}
use Rattle.jresolution.specs.jprogram.ProgramClasses.{Class, Lib, Program, User, above_name, face_names, find, found_at, known, place_of, reaches}
use Rattle.jresolution.specs.jprogram.ProofNames.{supers, super_missing}
use Rattle.jresolution.specs.jprogram.Heights.{lib_height}
use Rattle.jresolution.specs.jprogram.InterfaceSearch.{IsLayered}
use Rattle.jresolution.specs.jprogram.NameChecks.{in_class, naming_fault, naming_test, reserved_test, stands_before, taken_test}
use Rattle.jresolution.specs.jprogram.OrderedPrograms.{IsStraight, StandsInOrder}
use Rattle.jresolution.specs.jprogram.SuperChecks.{circle_test, face_missing, is_missing, is_object, lists_a_class, missing_test, super_barred, super_test, supers_fault, supers_test}
use Rattle.jresolution.proofs.JprogramProofs.CycleSearch.{Among, all_weaken, among_each, or_split}
use Rattle.jresolution.proofs.JprogramProofs.SearchTermination.{above_faces, faces_at}
use Rattle.jresolution.proofs.JprogramProofs.InterfaceSearch.{only_runnable, place_named, place_there}
use Rattle.jresolution.proofs.JprogramProofs.NameReachability.{Implies, clash, count, count_most, grow, known_or, name_equal, name_is, none_over, or_right, pick, settled}

-- ---- lists

pub fault_none : {F : Type 0} (b : Bool) (k : F) → fault_if b k ≡ None → b ≡ false
fault_none true k e = absurd cc
fault_none false k e = refl

pub or_none : (a b : Bool) → (a || b) ≡ false → (a ≡ false) × (b ≡ false)
or_none true b e = absurd cc
or_none false b e = (refl, e)

pub not_none : (b : Bool) → not b ≡ false → b ≡ true
not_none true e = refl
not_none false e = absurd cc

pub in_none : (i : ℕ) (f : Option LinkKind) → in_class i f ≡ None → f ≡ None
in_none i None e = refl
in_none i (Some k) e = absurd cc

pub any_none : {A : Type 0} (t : A → Bool) (xs : List A) → list_any t xs ≡ false → AllByRecursion (λ x. t x ≡ false) xs
any_none t [] e = tt
any_none t (x ∷ xs) e = let h = or_none (t x) (list_any t xs) e in (h.0, any_none t xs h.1)

pub all_of_map : {A B : Type 0} (P : B → Type 0) (g : A → B) (xs : List A) → AllByRecursion (λ x. P (g x)) xs → AllByRecursion P (map g xs)
all_of_map P g [] all = tt
all_of_map P g (x ∷ xs) all = (all.0, all_of_map P g xs all.1)

pub all_append : {A : Type 0} (P : A → Type 0) (xs ys : List A) → AllByRecursion P xs → AllByRecursion P ys → AllByRecursion P (xs ++ ys)
all_append P [] ys a b = b
all_append P (x ∷ xs) ys a b = (a.0, all_append P xs ys a.1 b)

pub all_behind : {A : Type 0} (P : A → Type 0) (xs ys : List A) → AllByRecursion P (xs ++ ys) → AllByRecursion P ys
all_behind P [] ys a = a
all_behind P (x ∷ xs) ys a = all_behind P xs ys a.1

-- what passes a test among items that all have something
pub any_of_all : {A B : Type 0} (t : A → Bool) (P : A → Type 0) (xs : List A) → list_any t xs ≡ true → AllByRecursion P xs → ((x : A) → t x ≡ true → P x → B) → B
any_of_all t P [] e all h = absurd cc
any_of_all t P (x ∷ xs) e all h = elim (or_split (t x) (list_any t xs) e) [ inl here ↦ h x here all.0 | inr later ↦ any_of_all t P xs later all.1 h ]

-- a test that one of the names passes
any_at : (t : List ℕ → Bool) (s : List ℕ) (xs : List (List ℕ)) → Among xs s → t s ≡ true → list_any t xs ≡ true
any_at t s [] e h = absurd cc
any_at t s (x ∷ xs) e h = elim (or_split (bytes_eq s x) (list_any (bytes_eq s) xs) e) [
  | inl same ↦ let here : t x ≡ true = ap t (sym (name_is s x same)) ∙ h in rw here refl
  | inr later ↦ or_right (t x) (list_any t xs) (any_at t s xs later h)
]

-- ---- the class of a name

-- a user's class, one of the library, or none
pub data Stands (p : Program) (c : List ℕ) : Type 0 where
  Users : (i : ℕ) (part : CodePart) → slice_get p.parts i ≡ Some part → this_name part.class ≡ c → find p c ≡ Some (User i part.class) → Stands p c
  Libs : (l : LibClass) → library.class_named p.side c ≡ Some l → find p c ≡ Some (Lib l) → Stands p c
  Nowhere : find p c ≡ None → Stands p c

lib_stands : (p : Program) (c : List ℕ) (o : Option LibClass) → library.class_named p.side c ≡ o → find p c ≡ option_map Lib o → Stands p c
lib_stands p c None e is = Nowhere is
lib_stands p c (Some l) e is = Libs l e is

stands_at : (p : Program) (c : List ℕ) (o : Option ℕ) → place_of p.parts c ≡ o → Stands p c
unfolding find
stands_at p c None e = lib_stands p c (library.class_named p.side c) refl (ap (found_at p c) e)
stands_at p c (Some i) e =
    let there = place_there p.parts c i e in
    let is : get_or p.parts i there.0 ≡ there.0 = get_or_from_slice_get p.parts i there.0 there.0 there.1 in
    let name : this_name there.0.class ≡ c = ap (λ (x : CodePart). this_name x.class) (sym is) ∙ place_named p.parts c i there.0 e in
    Users i there.0 there.1 name (ap (found_at p c) e ∙ ap (option_map (λ (x : CodePart). User i x.class)) there.1)

pub stands : (p : Program) (c : List ℕ) → Stands p c
stands p c = stands_at p c (place_of p.parts c) refl

-- ---- the library's classes

abbrev pub height_or_none : Option Class → ℕ
height_or_none None = 0
height_or_none (Some (User i c)) = 0
height_or_none (Some (Lib c)) = lib_height c

no_face : (i : LibClass) → library.implemented lib.Object ≡ Some i → ⊥
no_face i e = cc

above_zero : (l i : LibClass) (o : Option LibClass) → library.superclass l ≡ o → library.implemented l ≡ Some i → 0 < library.height l
above_zero l i None e is = absurd (no_face i (subst (λ (x : LibClass). library.implemented x ≡ Some i) (top_is l e) is))
above_zero l i (Some s) e is = let lt : library.height s < library.height l = lower l s e in omega (arith, lt)

-- no user's class has the name of one of the library
abbrev pub NamesApart : Program → Type 0
NamesApart p = (i : ℕ) (part : CodePart) → slice_get p.parts i ≡ Some part → is_some (library.class_named p.side (this_name part.class)) ≡ false

module _ (p : Program) (apart : NamesApart p) where
  lib_place : (s : LibClass) → library.stands_on p.side s ≡ true → (o : Option ℕ) → place_of p.parts (library.name_of s) ≡ o → find p (library.name_of s) ≡ Some (Lib s)
  unfolding find
  lib_place s on None e = ap (found_at p (library.name_of s)) e ∙ ap (option_map Lib) (class_only p.side s on)
  lib_place s on (Some i) e =
      let there = place_there p.parts (library.name_of s) i e in
      let is : get_or p.parts i there.0 ≡ there.0 = get_or_from_slice_get p.parts i there.0 there.0 there.1 in
      let name : this_name there.0.class ≡ library.name_of s = ap (λ (x : CodePart). this_name x.class) (sym is) ∙ place_named p.parts (library.name_of s) i there.0 e in
      let taken : is_some (library.class_named p.side (this_name there.0.class)) ≡ true = ap (λ (n : List ℕ). is_some (library.class_named p.side n)) name ∙ ap is_some (class_only p.side s on) in
      clash (is_some (library.class_named p.side (this_name there.0.class))) taken (apart i there.0 there.1)

  pub lib_find : (s : LibClass) → library.stands_on p.side s ≡ true → find p (library.name_of s) ≡ Some (Lib s)
  lib_find s on = lib_place s on (place_of p.parts (library.name_of s)) refl

  -- a name is that of a class of the library, which stands lower
  pub record LibStep (l : LibClass) (s : List ℕ) : Type 0 where
    pub one : LibClass
    pub is : find p s ≡ Some (Lib one)
    pub less : lib_height one < lib_height l

  above_step : (l : LibClass) (o : Option LibClass) → library.superclass l ≡ o → AllByRecursion (LibStep l) (option_to_list (option_map library.name_of o))
  above_step l None e = tt
  above_step l (Some s) e =
      let none : length (option_to_list (library.implemented s)) ≡ 0 = ap faces_at (sym e) ∙ above_faces l in
      let lt : library.height s < library.height l = lower l s e in
      (record { one = s; is = lib_find s ((class_above p.side l s e).1); less = omega (arith, none, lt) }, tt)

  face_step : (l : LibClass) (o : Option LibClass) → library.implemented l ≡ o → AllByRecursion (LibStep l) (option_to_list (option_map library.name_of o))
  face_step l None e = tt
  face_step l (Some i) e =
      let one : lib_height i ≡ 1 = ap lib_height (only_runnable l i e) ∙ runnable_height in
      let some : 0 < library.height l = above_zero l i (library.superclass l) refl e in
      let two : length (option_to_list (library.implemented l)) ≡ 1 = ap (λ (x : Option LibClass). length (option_to_list x)) e in
      (record { one = i; is = lib_find i ((class_implements p.side l i e).1); less = omega (arith, one, two, some) }, tt)
    where
      runnable_height : lib_height lib.Runnable ≡ 1
      runnable_height = refl

  pub lib_steps : (l : LibClass) (c : List ℕ) → find p c ≡ Some (Lib l) → AllByRecursion (LibStep l) (supers p c)
  lib_steps l c is =
      subst (λ (o : Option Class). AllByRecursion (LibStep l) (supers_of o)) (sym is)
      (all_append (LibStep l) (option_to_list (option_map library.name_of (library.superclass l))) (option_to_list (option_map library.name_of (library.implemented l))) (above_step l (library.superclass l) refl) (face_step l (library.implemented l) refl))

  pub lib_reach : (n : ℕ) (l : LibClass) (c d : List ℕ) → find p c ≡ Some (Lib l) → reaches p n d c ≡ true → height_or_none (find p d) < lib_height l
  unfolding reaches
  lib_reach zero l c d is e = absurd cc
  lib_reach (suc n) l c d is e = any_of_all (λ s. bytes_eq d s || reaches p n d s) (LibStep l) (supers p c) e (lib_steps l c is) (λ s h step. elim (or_split (bytes_eq d s) (reaches p n d s) h) [
    | inl same ↦
        let less = step.less in
        let at : height_or_none (find p d) ≡ lib_height step.one = ap (λ (n : List ℕ). height_or_none (find p n)) (name_is d s same) ∙ ap height_or_none step.is in
        omega (arith, less, at)
    | inr far ↦
        let less = step.less in
        let lt = lib_reach n step.one s d step.is far in
        omega (arith, less, lt)
  ])

-- ---- heights

-- how many of the known names are reached from a name
pub tall : Program → List ℕ → ℕ
tall p c = count (λ d. reaches p (length (known p)) d c) (known p)

pub tall_most : (p : Program) (c : List ℕ) → tall p c ≤ length (known p)
unfolding tall
tall_most p c = count_most (λ d. reaches p (length (known p)) d c) (known p)

-- ---- what the tests say

module _ (p : Program) (good : StandsInOrder p) where
  pub not_taken : NamesApart p
  unfolding naming_fault taken_test
  not_taken i part at =
      let one : naming_test p i part ≡ None = in_none i (naming_test p i part) (none_fails (λ i part. in_class i (naming_test p i part)) p.parts i part good.named at) in
      let two : taken_test p i part.class ≡ None = (none_of (reserved_test p part.class) (taken_test p i part.class) one).1 in
      (or_none (is_some (library.class_named p.side (this_name part.class))) (stands_before p.parts i (this_name part.class)) (fault_none (is_some (library.class_named p.side (this_name part.class)) || stands_before p.parts i (this_name part.class)) Twice two)).0

  passes : (i : ℕ) (part : CodePart) → slice_get p.parts i ≡ Some part → supers_test p part ≡ None
  unfolding supers_fault
  passes i part at = in_none i (supers_test p part) (none_fails (λ i part. in_class i (supers_test p part)) p.parts i part good.extended at)

  not_missing : (i : ℕ) (part : CodePart) → slice_get p.parts i ≡ Some part → (super_missing p (super_name part.class) ≡ false) × (face_missing p part.class ≡ false)
  unfolding missing_test
  not_missing i part at =
      let one = (none_of (missing_test p part.class) (or_else (super_test p part.class) (circle_test p part.class)) (passes i part at)).0 in
      or_none (super_missing p (super_name part.class)) (face_missing p part.class) (fault_none (super_missing p (super_name part.class) || face_missing p part.class) NoClass one)

  pub not_bad : (i : ℕ) (part : CodePart) → slice_get p.parts i ≡ Some part → (super_barred p (super_name part.class) || (lists_a_class p part.class || (parts.is_interface part.class.flags && not (is_object (super_name part.class))))) ≡ false
  unfolding super_test
  not_bad i part at =
      let rest = (none_of (missing_test p part.class) (or_else (super_test p part.class) (circle_test p part.class)) (passes i part at)).1 in
      let one = (none_of (super_test p part.class) (circle_test p part.class) rest).0 in
      fault_none (super_barred p (super_name part.class) || (lists_a_class p part.class || (parts.is_interface part.class.flags && not (is_object (super_name part.class))))) BadSuper one

  not_round : (i : ℕ) (part : CodePart) → slice_get p.parts i ≡ Some part → reaches p (length (known p)) (this_name part.class) (this_name part.class) ≡ false
  unfolding circle_test
  not_round i part at =
      let rest = (none_of (missing_test p part.class) (or_else (super_test p part.class) (circle_test p part.class)) (passes i part at)).1 in
      let one = (none_of (super_test p part.class) (circle_test p part.class) rest).1 in
      fault_none (reaches p (length (known p)) (this_name part.class) (this_name part.class)) Circular one

  -- ---- no circles

  never : (b : Bool) → (b ≡ true → ⊥) → b ≡ false
  never true h = absurd (h refl)
  never false h = refl

  straight_at : (c : List ℕ) → Stands p c → reaches p (length (known p)) c c ≡ false
  straight_at c (Users i part at name is) = subst (λ (n : List ℕ). reaches p (length (known p)) n n ≡ false) name (not_round i part at)
  straight_at c (Libs l named is) = never (reaches p (length (known p)) c c) (λ e.
      let lt = lib_reach p not_taken (length (known p)) l c c is e in
      let at : height_or_none (find p c) ≡ lib_height l = ap height_or_none is in
      omega (arith, lt, at))
  straight_at c (Nowhere none) = none_over p c c (length (known p)) none

  -- no class stands above itself
  pub straight : IsStraight p
  straight c = straight_at c (stands p c)

  -- ---- what stands above is found

  abbrev IsFound : List ℕ → Type 0
  IsFound s = is_some (find p s) ≡ true

  super_found : (o : Option (List ℕ)) → super_missing p o ≡ false → AllByRecursion IsFound (option_to_list o)
  super_found None e = absurd cc
  super_found (Some s) e = (not_none (is_some (find p s)) e, tt)

  faces_found : (c : ClassParts) → face_missing p c ≡ false → AllByRecursion IsFound (interface_names c)
  faces_found c e =
      let all = any_none (λ i. is_missing p (class_text c.pool i)) c.interfaces e in
      all_of_map IsFound (class_text c.pool) c.interfaces (all_weaken (λ i. is_missing p (class_text c.pool i) ≡ false) (λ i. IsFound (class_text c.pool i)) (λ i h. not_none (is_some (find p (class_text c.pool i))) h) c.interfaces all)

  all_found_at : (c : List ℕ) → Stands p c → AllByRecursion IsFound (supers p c)
  all_found_at c (Users i part at name is) =
      let h = not_missing i part at in
      subst (λ (o : Option Class). AllByRecursion IsFound (supers_of o)) (sym is)
      (all_append IsFound (option_to_list (super_name part.class)) (interface_names part.class) (super_found (super_name part.class) h.0) (faces_found part.class h.1))
  all_found_at c (Libs l named is) = all_weaken (LibStep p not_taken l) IsFound (λ s step. ap is_some step.is) (supers p c) (lib_steps p not_taken l c is)
  all_found_at c (Nowhere none) = subst (λ (o : Option Class). AllByRecursion IsFound (supers_of o)) (sym none) tt

  pub all_found : (c : List ℕ) → AllByRecursion IsFound (supers p c)
  all_found c = all_found_at c (stands p c)

  -- ---- heights

  onward_one : (c s : List ℕ) → Among (supers p c) s → (d : List ℕ) → Implies (reaches p (length (known p)) d s) (reaches p (length (known p)) d c)
  onward_one c s at d e = settled p d c ∙ any_at (λ x. bytes_eq d x || reaches p (length (known p)) d x) s (supers p c) at (or_right (bytes_eq d s) (reaches p (length (known p)) d s) e)

  reached_one : (c s : List ℕ) → Among (supers p c) s → reaches p (length (known p)) s c ≡ true
  reached_one c s at = settled p s c ∙ any_at (λ x. bytes_eq s x || reaches p (length (known p)) s x) s (supers p c) at (let same = name_equal s in rw same refl)

  is_known : (s : List ℕ) → IsFound s → list_any (bytes_eq s) (known p) ≡ true
  is_known s f = elim (known_or p s) [ inl none ↦ clash (is_some (find p s)) f (ap is_some none) | inr one ↦ one ]

  lower_one : (c s : List ℕ) → Among (supers p c) s → IsFound s → tall p s < tall p c
  unfolding tall
  lower_one c s at f = elim (grow (λ d. reaches p (length (known p)) d s) (λ d. reaches p (length (known p)) d c) (onward_one c s at) (known p)) [
    | inl all ↦
        let back = pick (λ d. Implies (reaches p (length (known p)) d c) (reaches p (length (known p)) d s)) s (known p) all (is_known s f) in
        clash (reaches p (length (known p)) s s) (back (reached_one c s at)) (straight s)
    | inr lt ↦ lt
  ]

  both_all : {A : Type 0} (P Q : A → Type 0) (xs : List A) → AllByRecursion P xs → AllByRecursion Q xs → AllByRecursion (λ x. P x × Q x) xs
  both_all P Q [] a b = tt
  both_all P Q (x ∷ xs) a b = ((a.0, b.0), both_all P Q xs a.1 b.1)

  -- what stands directly above a class is lower
  pub lower_all : (c : List ℕ) → AllByRecursion (λ s. tall p s < tall p c) (supers p c)
  lower_all c = all_weaken (λ s. Among (supers p c) s × IsFound s) (λ s. tall p s < tall p c) (λ s h. lower_one c s h.0 h.1) (supers p c) (both_all (Among (supers p c)) IsFound (supers p c) (among_each (supers p c)) (all_found c))

  lt_all : (n : ℕ) (xs : List (List ℕ)) → AllByRecursion (λ s. tall p s < n) xs → IsTrue (list_all (λ d. nat_lt (tall p d) n) xs)
  lt_all n [] all = refl
  lt_all n (x ∷ xs) all = both (nat_lt (tall p x) n) (list_all (λ d. nat_lt (tall p d) n) xs) (lt-ltb (tall p x) n all.0) (lt_all n xs all.1)

  pub layered : IsLayered p
  layered = record {
    height = tall p;
    within = tall_most p;
    lower = λ c. lt_all (tall p c) (face_names p c) (all_behind (λ s. tall p s < tall p c) (option_to_list (above_name p c)) (face_names p c) (lower_all c));
  }
