-- Where heights are an order, a class that is higher than all directly above it doesn't stand above itself.
use Rattle.std.proofs.Common.{◌≡◌, ℕ, zero, suc, ◌+◌, ◌<◌, ◌≤◌, ◌^◌, ◌||◌, ◌&&◌, Bool, true, false, List, [], ◌∷◌, ◌++◌, length, Option, Some, None, refl, sym, ap, subst, arith, inl, inr}
use Rattle.std.specs.Prelude.{IsTrue, is_some, not, slice_get}
use Rattle.std.specs.List.{list_all, AllByRecursion}
use Rattle.std.specs.Option.{option_to_list}
use Rattle.std.specs.Str.{bytes_eq}
use Rattle.std.proofs.lemmas.Bool.{ltb-true}
use Rattle.jground.proofs.JformatProofs.ReadingSteps.{first_true, second_true}
use Rattle.jclass.specs.declared.class.ClassParts.{ClassParts}
use Rattle.jlib.specs.declared.classes.LibClass.{LibClass}
use Rattle.jlib.specs.LibraryClasses as library
use Rattle.jlib.proofs.LibraryLookup.{next_above}
use Rattle.jresolution.specs.declared.jprogram.part.CodePart.{CodePart}
use Rattle.jresolution.specs.jprogram.ClassFileParts.{class_text, interface_names, super_name, this_name}
use Rattle.jresolution.specs.jprogram.DirectSupers.{supers_of}
use Rattle.jresolution.specs.jprogram.ProgramClasses.{Class, Lib, Program, User, find, known, reaches}
use Rattle.jresolution.specs.jprogram.ProofNames.{supers}
use Rattle.jresolution.specs.jprogram.Heights.{height_in, height_of, is_above, is_below, is_order, is_part_above, is_strict, is_user_above, super_below}
use Rattle.jground.specs.jbase.FirstFaults.{fault_if}
use Rattle.jresolution.specs.declared.jprogram.fault.LinkKind.TheVariants.{Circular}
use Rattle.jresolution.specs.jprogram.SuperChecks.{circle_test}
use Rattle.jresolution.proofs.JprogramProofs.CycleSearch.{all_weaken, or_split}
use Rattle.jresolution.proofs.JprogramProofs.InterfaceSearch.{some_is}
use Rattle.jresolution.proofs.JprogramProofs.NameReachability.{name_is}
use Rattle.jresolution.proofs.JprogramProofs.ClassHeights.{LibStep, NamesApart, Stands, Users, Libs, Nowhere, all_append, all_of_map, any_of_all, lib_steps, stands}

-- ---- lists

is_not : (b : Bool) → IsTrue (not b) → b ≡ false
is_not true e = absurd cc
is_not false e = refl

all_of_true : {A : Type 0} (t : A → Bool) (xs : List A) → IsTrue (list_all t xs) → AllByRecursion (λ x. IsTrue (t x)) xs
all_of_true t [] e = tt
all_of_true t (x ∷ xs) e = (first_true (t x) (list_all t xs) e, all_of_true t xs (second_true (t x) (list_all t xs) e))

at_place : {A : Type 0} (t : A → Bool) (xs : List A) (i : ℕ) (x : A) → IsTrue (list_all t xs) → slice_get xs i ≡ Some x → IsTrue (t x)
at_place t [] i x all at = absurd cc
at_place t (y ∷ ys) zero x all at = subst (λ z. IsTrue (t z)) (some_is y x at) (first_true (t y) (list_all t ys) all)
at_place t (y ∷ ys) (suc i) x all at = at_place t ys i x (second_true (t y) (list_all t ys) all) at

-- ---- what the test says

module _ (p : Program) (heights : List ℕ) (good : IsTrue (is_order p heights)) where
  each : (i : ℕ) (part : CodePart) → slice_get p.parts i ≡ Some part → IsTrue (not (is_some (library.class_named p.side (this_name part.class))) && is_above p heights (height_of p heights (this_name part.class) + 1) part.class)
  unfolding is_order is_part_above
  each i part at = at_place (is_part_above p heights) p.parts i part good at

  apart : NamesApart p
  apart i part at = is_not (is_some (library.class_named p.side (this_name part.class))) (first_true (not (is_some (library.class_named p.side (this_name part.class)))) (is_above p heights (height_of p heights (this_name part.class) + 1) part.class) (each i part at))

  Low : ℕ → List ℕ → Type 0
  Low n s = height_of p heights s < n

  super_low : (n : ℕ) (o : Option (List ℕ)) → IsTrue (super_below p heights n o) → AllByRecursion (Low n) (option_to_list o)
  unfolding Low
  super_low n None e = tt
  super_low n (Some s) e = (ltb-true (height_of p heights s) n e, tt)

  faces_low : (n : ℕ) (c : ClassParts) → IsTrue (list_all (λ i. is_below p heights n (class_text c.pool i)) c.interfaces) → AllByRecursion (Low n) (interface_names c)
  unfolding Low
  faces_low n c e =
      let all = all_of_true (λ i. is_below p heights n (class_text c.pool i)) c.interfaces e in
      all_of_map (Low n) (class_text c.pool) c.interfaces (all_weaken (λ i. IsTrue (is_below p heights n (class_text c.pool i))) (λ i. Low n (class_text c.pool i)) (λ i h. ltb-true (height_of p heights (class_text c.pool i)) n h) c.interfaces all)

  user_low : (n : ℕ) (c : ClassParts) → IsTrue (is_above p heights n c) → AllByRecursion (Low n) (option_to_list (super_name c) ++ interface_names c)
  user_low n c e =
      let above = first_true (super_below p heights n (super_name c)) (list_all (λ i. is_below p heights n (class_text c.pool i)) c.interfaces) e in
      let listed = second_true (super_below p heights n (super_name c)) (list_all (λ i. is_below p heights n (class_text c.pool i)) c.interfaces) e in
      all_append (Low n) (option_to_list (super_name c)) (interface_names c) (super_low n (super_name c) above) (faces_low n c listed)

  -- nothing that stands directly above a class is higher
  low_at : (c : List ℕ) → Stands p c → AllByRecursion (Low (height_of p heights c + 1)) (supers p c)
  unfolding Low
  low_at c (Users i part at name is) =
      let one = second_true (not (is_some (library.class_named p.side (this_name part.class)))) (is_above p heights (height_of p heights (this_name part.class) + 1) part.class) (each i part at) in
      let here : IsTrue (is_above p heights (height_of p heights c + 1) part.class) = subst (λ (n : List ℕ). IsTrue (is_above p heights (height_of p heights n + 1) part.class)) name one in
      subst (λ (o : Option Class). AllByRecursion (Low (height_of p heights c + 1)) (supers_of o)) (sym is) (user_low (height_of p heights c + 1) part.class here)
  low_at c (Libs l named is) = all_weaken (LibStep p apart l) (Low (height_of p heights c + 1)) (λ s step.
      let less = step.less in
      let below = ap (height_in heights) step.is in
      let here = ap (height_in heights) is in
      omega (arith, less, below, here)) (supers p c) (lib_steps p apart l c is)
  low_at c (Nowhere none) = subst (λ (o : Option Class). AllByRecursion (Low (height_of p heights c + 1)) (supers_of o)) (sym none) tt

  -- nor what is reached
  reached_by_order : (n : ℕ) (c d : List ℕ) → reaches p n d c ≡ true → height_of p heights d < height_of p heights c + 1
  unfolding reaches Low
  reached_by_order zero c d e = absurd cc
  reached_by_order (suc n) c d e = any_of_all (λ s. bytes_eq d s || reaches p n d s) (Low (height_of p heights c + 1)) (supers p c) e (low_at c (stands p c)) (λ s h lt. elim (or_split (bytes_eq d s) (reaches p n d s) h) [
    | inl same ↦ let at = ap (height_of p heights) (name_is d s same) in omega (arith, lt, at)
    | inr far ↦ let less = reached_by_order n s d far in omega (arith, lt, less)
  ])

  never : (b : Bool) → (b ≡ true → ⊥) → b ≡ false
  never true h = absurd (h refl)
  never false h = refl

  -- a class that is higher than what stands directly above it
  strict_low : (c : List ℕ) (o : Option Class) → find p c ≡ o → IsTrue (is_user_above p heights (height_of p heights c) o) → AllByRecursion (Low (height_of p heights c)) (supers p c)
  strict_low c None is e = absurd cc
  strict_low c (Some (User i k)) is e = subst (λ (o : Option Class). AllByRecursion (Low (height_of p heights c)) (supers_of o)) (sym is) (user_low (height_of p heights c) k e)
  strict_low c (Some (Lib l)) is e = absurd cc

  itself_never : (n : ℕ) (c : List ℕ) → AllByRecursion (Low (height_of p heights c)) (supers p c) → reaches p n c c ≡ true → ⊥
  unfolding reaches Low
  itself_never zero c low e = cc
  itself_never (suc n) c low e = any_of_all (λ s. bytes_eq c s || reaches p n c s) (Low (height_of p heights c)) (supers p c) e low (λ s h lt. elim (or_split (bytes_eq c s) (reaches p n c s) h) [
    | inl same ↦ let at = ap (height_of p heights) (name_is c s same) in omega (arith, lt, at)
    | inr far ↦ let most = reached_by_order n s c far in omega (arith, lt, most)
  ])

  apart_by : (c : List ℕ) → IsTrue (is_strict p heights c) → reaches p (length (known p)) c c ≡ false
  apart_by c e = never (reaches p (length (known p)) c c) (λ h. itself_never (length (known p)) c (strict_low c (find p c) refl e) h)

pub strict_apart : (p : Program) (heights : List ℕ) (c : List ℕ) → is_order p heights ≡ true → is_strict p heights c ≡ true → reaches p (length (known p)) c c ≡ false
strict_apart p heights c good strict = apart_by p heights good c strict

-- ---- the heights of the library's classes

upward_most : (n : ℕ) (o : Option LibClass) → length (library.upward n o) ≤ n
upward_most zero o = omega arith
upward_most (suc n) None = omega arith
upward_most (suc n) (Some c) = let ih = upward_most n (library.superclass c) in omega (arith, ih)

pub height_few : (c : LibClass) → library.height c < 2 ^ 16
height_few c = let few : library.height c ≤ 46 = upward_most 46 (library.superclass c) in omega (arith, few)

pub height_next : (c s : LibClass) → Some s ≡ library.superclass c → library.height c ≡ library.height s + 1
height_next c s e = let one : library.height c ≡ suc (library.height s) = ap (λ (xs : List LibClass). length xs) (next_above c s (sym e)) in omega (arith, one)

pub height_top : (c : LibClass) → None ≡ library.superclass c → library.height c ≡ 0
height_top c e = ap (λ (o : Option LibClass). length (library.upward 46 o)) (sym e)

-- ---- a class that doesn't stand above itself

pub apart_none : (p : Program) (c : ClassParts) (name : List ℕ) → name ≡ this_name c → reaches p (length (known p)) name name ≡ false → None ≡ circle_test p c
unfolding circle_test
apart_none p c name is none = ap (λ (b : Bool). fault_if b Circular) (sym (subst (λ (n : List ℕ). reaches p (length (known p)) n n ≡ false) is none))
