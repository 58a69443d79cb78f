-- The slots of names, as a loop fills them, and what the slot of a name says of it.
use Rattle.std.proofs.Common.{◌≡◌, ℕ, zero, suc, ◌+◌, ◌≤◌, ◌<◌, Bool, true, false, cond, List, [], ◌∷◌, ◌++◌, length, get_or, take, Option, Some, None, refl, sym, ap, subst, ◌∙◌, arith, add-one, inl, inr}
use Rattle.std.specs.Prelude.{◌==◌, is_some, replicate, slice_get, slice_set}
use Rattle.std.specs.List.{position}
use Rattle.std.specs.Option.{option_or}
use Rattle.std.specs.Str.{bytes_eq}
use Rattle.std.proofs.lemmas.Bool.{cases_Bool, eq-eqb, eqb-true}
use Rattle.std.proofs.lemmas.List.{length-replicate, length-set, length-take-le, take_all}
use Rattle.std.proofs.lemmas.Slice.Eq.{bytes_eq-Decides}
use Rattle.std.proofs.Math.Seq.{take-suc}
use Rattle.jparts.proofs.JpoolProofs.Pushes.{or_none, position_push}
use Rattle.jresolution.specs.declared.jprogram.part.CodePart.{CodePart}
use Rattle.jresolution.specs.jprogram.ProgramClasses.{place_of}
use Rattle.jresolution.specs.jprogram.ClassFileParts.{this_name}
use Rattle.jresolution.specs.jprogram.NameSlots.{AreFilled, AreSlots, Fills, has_slot, is_named, place_at, place_in, slot_of}
use Rattle.jresolution.proofs.JprogramProofs.DigestTables.{no_position, same_position}
use Rattle.jresolution.proofs.JprogramProofs.NameTables.{none_is, or_some}

-- ---- one more place

set_here : (slots : List (Option ℕ)) (k : ℕ) (place : Option ℕ) → k < length slots → place_at (slice_set slots k place) k ≡ place
set_here [] k place lt = absurd (omega (arith, lt))
set_here (x ∷ xs) zero place lt = refl
set_here (x ∷ xs) (suc k) place lt = set_here xs k place (omega (arith, lt))

set_other : (slots : List (Option ℕ)) (k j : ℕ) (place : Option ℕ) → (k ≡ j → ⊥) → place_at (slice_set slots k place) j ≡ place_at slots j
set_other [] zero j place apart = refl
set_other [] (suc k) j place apart = refl
set_other (x ∷ xs) zero zero place apart = absurd (apart refl)
set_other (x ∷ xs) zero (suc j) place apart = refl
set_other (x ∷ xs) (suc k) zero place apart = refl
set_other (x ∷ xs) (suc k) (suc j) place apart = set_other xs k j place (λ e. apart (ap (λ n. suc n) e))

clash : (b : Bool) → b ≡ true → b ≡ false → ⊥
clash b t f = absurd cc

filled_at : (slots : List (Option ℕ)) (k i j : ℕ) → k < length slots → is_some (place_at slots k) ≡ false → place_at (slice_set slots k (Some i)) j ≡ option_or (place_at slots j) (cond (k == j) (Some i) None)
filled_at slots k i j lt free = elim (cases_Bool (k == j)) [
  | inl y ↦
      let same : k ≡ j = eqb-true k j y in
      let none : place_at slots j ≡ None = none_is (place_at slots j) (subst (λ (t : ℕ). is_some (place_at slots t) ≡ false) same free) in
      let here : place_at (slice_set slots k (Some i)) j ≡ Some i = subst (λ (t : ℕ). place_at (slice_set slots k (Some i)) t ≡ Some i) same (set_here slots k (Some i) lt) in
      rw (here, none, y) refl
  | inr n ↦
      let other : place_at (slice_set slots k (Some i)) j ≡ place_at slots j = set_other slots k j (Some i) (λ e. clash (k == j) (eq-eqb k j e) n) in
      rw (other, n) (sym (or_none (place_at slots j)))
]

pub fills_new : (k i : ℕ) (old new : List (Option ℕ)) → k < length old → is_some (place_at old k) ≡ false → new ≡ slice_set old k (Some i) → Fills k i old new
fills_new k i old new lt free is =
    (ap length is ∙ length-set old k (Some i), λ j. ap (λ (xs : List (Option ℕ)). place_at xs j) is ∙ filled_at old k i j lt free)

kept_at : (slots : List (Option ℕ)) (k i j : ℕ) → is_some (place_at slots k) ≡ true → place_at slots j ≡ option_or (place_at slots j) (cond (k == j) (Some i) None)
kept_at slots k i j there = elim (cases_Bool (k == j)) [
  | inl y ↦
      let some : is_some (place_at slots j) ≡ true = subst (λ (t : ℕ). is_some (place_at slots t) ≡ true) (eqb-true k j y) there in
      sym (or_some (place_at slots j) (cond (k == j) (Some i) None) some)
  | inr n ↦ rw n (sym (or_none (place_at slots j)))
]

pub fills_before : (k i : ℕ) (old : List (Option ℕ)) → is_some (place_at old k) ≡ true → Fills k i old old
fills_before k i old there = (refl, λ j. kept_at old k i j there)

-- ---- the loop over parts

free_at : (n k : ℕ) → place_at (replicate n None) k ≡ None
free_at zero k = refl
free_at (suc n) zero = refl
free_at (suc n) (suc k) = free_at n k

pub free_length : (count : ℕ) (slots : List (Option ℕ)) → slots ≡ replicate count None → length slots ≡ count
free_length count slots is = ap length is ∙ length-replicate count None

pub filled_none : (count : ℕ) (slots : List (Option ℕ)) → slots ≡ replicate count None → AreFilled count [] slots
filled_none count slots is name = ap (λ (xs : List (Option ℕ)). place_at xs (slot_of count name)) is ∙ free_at count (slot_of count name)

pub filled_next : (ps : List CodePart) (i : ℕ) (one : CodePart) (count k : ℕ) (old new : List (Option ℕ)) → i < length ps → one ≡ get_or ps i one → k ≡ slot_of count (this_name one.class) → AreFilled count (take i ps) old → Fills k i old new → AreFilled count (take (i + 1) ps) new
filled_next ps i one count k old new lt is named found fills name =
    let j : ℕ = slot_of count name in
    let test : CodePart → Bool = has_slot count j in
    let n : length (take i ps) ≡ i = length-take-le i ps (omega arith) in
    let more : take (i + 1) ps ≡ take i ps ++ one ∷ [] = rw (add-one, take-suc ps i one, ← is) refl in
    fills.1 j ∙ ap (λ (o : Option ℕ). option_or o (cond (k == j) (Some i) None)) (found name)
    ∙ ap (λ (t : ℕ). option_or (position test (take i ps)) (cond (t == j) (Some i) None)) named
    ∙ sym (ap (position test) more ∙ position_push test (take i ps) one ∙ ap (λ (m : ℕ). option_or (position test (take i ps)) (cond (test one) (Some m) None)) n)

pub filled_end : (ps : List CodePart) (i count : ℕ) (slots : List (Option ℕ)) → length ps ≤ i → 0 < count → length slots ≡ count → AreFilled count (take i ps) slots → AreSlots ps slots
filled_end ps i count slots le some size found =
    let all : AreFilled count ps slots = subst (λ (qs : List CodePart). AreFilled count qs slots) (take_all i ps le) found in
    (omega (arith, size, some), subst (λ (n : ℕ). AreFilled n ps slots) (sym size) all)

-- ---- looking a name up

named_slot : (count : ℕ) (name : List ℕ) (part : CodePart) → bytes_eq (this_name part.class) name ≡ true → has_slot count (slot_of count name) part ≡ true
named_slot count name part e =
    let same : this_name part.class ≡ name = (bytes_eq-Decides (this_name part.class) name).0 e in
    eq-eqb (slot_of count (this_name part.class)) (slot_of count name) (ap (slot_of count) same)

-- nothing in the slot of a name: no class has it
pub none_slotted : (ps : List CodePart) (slots : List (Option ℕ)) (name : List ℕ) → AreSlots ps slots → place_in slots name ≡ None → place_of ps name ≡ None
unfolding place_of
none_slotted ps slots name are e =
    let count : ℕ = length slots in
    no_position (λ part. bytes_eq (this_name part.class) name) (has_slot count (slot_of count name)) (named_slot count name) ps (sym (are.1 name) ∙ e)

-- a class that stands in the slot of its name is the first of this name
first_by : (ps : List CodePart) (slots : List (Option ℕ)) (name : List ℕ) (i : ℕ) (found : Option CodePart) → AreSlots ps slots → place_in slots name ≡ Some i → slice_get ps i ≡ found → is_named name found ≡ true → place_of ps name ≡ Some i
unfolding place_of
first_by ps slots name i None are e at is = absurd cc
first_by ps slots name i (Some part) are e at is =
    let count : ℕ = length slots in
    same_position (λ part. bytes_eq (this_name part.class) name) (has_slot count (slot_of count name)) (named_slot count name) ps i part (sym (are.1 name) ∙ e) at is

pub first_slotted : (ps : List CodePart) (slots : List (Option ℕ)) (name : List ℕ) (i : ℕ) → AreSlots ps slots → place_in slots name ≡ Some i → is_named name (slice_get ps i) ≡ true → place_of ps name ≡ Some i
first_slotted ps slots name i are e is = first_by ps slots name i (slice_get ps i) are e refl is
