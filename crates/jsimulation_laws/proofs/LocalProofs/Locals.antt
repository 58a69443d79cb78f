-- Locals: what is read of them where one is written, and how those of a pushed frame stand for one another.
use Rattle.std.proofs.Common.{◌≡◌, ℕ, zero, suc, ◌+◌, ◌-◌, ◌<◌, ◌≤◌, List, [], ◌∷◌, ◌++◌, length, length-append, append_assoc, append-nil, Option, Some, None, refl, sym, ap, ◌∙◌, subst, arith}
use Rattle.std.specs.Prelude.{Bool, false, option_and_then, replicate, slice_set, if◌then◌else◌}
use Rattle.jvalues.specs.declared.jops.value.Value.TheVariants.{Ctx}
use Rattle.jvalues.specs.jops.Shuffles.{is_long}
use Rattle.jctx.specs.declared.item.Item.{Item}
use Rattle.jsemantics.specs.jmachine.FrameOperations.{locals_of, onto, places_of}
use Rattle.jsemantics.specs.jmachine.BasicInstructions.{local_at, places}
use Rattle.jsimulation_laws.specs.relation.StateRelation.{LocalsStand, Word}

abbrev Local : Type 0
Local = Option Word

abbrev held : Option Local → Option Word
held o = option_and_then (λ v. v) o

-- ---- writing one

set_same : (xs : List Local) (n : ℕ) (v : Word) → n < length xs → local_at (slice_set xs n (Some v)) n ≡ Some v
set_same [] n v lt = absurd (omega arith)
set_same (x ∷ xs) zero v lt = refl
set_same (x ∷ xs) (suc n) v lt = set_same xs n v (omega arith)

set_other : (xs : List Local) (n m : ℕ) (v : Local) → m < n → local_at (slice_set xs n v) m ≡ local_at xs m
set_other [] n m v lt = refl
set_other (x ∷ xs) zero m v lt = absurd (omega arith)
set_other (x ∷ xs) (suc n) zero v lt = refl
set_other (x ∷ xs) (suc n) (suc m) v lt = set_other xs n m v (omega arith)

pub set_long : (xs : List Local) (n : ℕ) (v : Local) → length (slice_set xs n v) ≡ length xs
set_long [] n v = refl
set_long (x ∷ xs) zero v = refl
set_long (x ∷ xs) (suc n) v = ap suc (set_long xs n v)

pub none_past : {P : Type 0} (v : Word) → None ≡ Some v → P
none_past v e = absurd cc

pub within : (xs : List Local) (n : ℕ) (v : Word) → local_at xs n ≡ Some v → n < length xs
within [] n v e = none_past v e
within (x ∷ xs) zero v e = omega arith
within (x ∷ xs) (suc n) v e = let lt = within xs n v e in omega (arith, lt)

-- ---- the locals of a pushed frame

onto_front : (values : List Word) (rest : List Local) → onto values rest ≡ onto values [] ++ rest
unfolding onto
onto_front [] rest = refl
onto_front (v ∷ values) rest =
    onto_front values (places v ++ rest)
    ∙ sym (append_assoc (onto values []) (places v) rest)
    ∙ ap (λ (xs : List Local). (onto values [] ++ xs) ++ rest) (sym (append-nil (places v)))
    ∙ ap (λ (xs : List Local). xs ++ rest) (sym (onto_front values (places v ++ [])))

empty_local : (n i : ℕ) → local_at {K = List Item} (replicate n None) i ≡ None
empty_local zero i = refl
empty_local (suc n) zero = refl
empty_local (suc n) (suc i) = empty_local n i

front_stands : (front : List Local) (n : ℕ) (rest : List Local) → LocalsStand (front ++ replicate n None) (front ++ rest)
front_stands [] n rest i v e = none_past v (sym (empty_local n i) ∙ e)
front_stands (x ∷ front) n rest zero v e = e
front_stands (x ∷ front) n rest (suc i) v e = front_stands front n rest i v e

behind_front : (front : List Local) (v : Word) (rest : List Local) → local_at (front ++ Some v ∷ rest) (length front) ≡ Some v
behind_front [] v rest = refl
behind_front (x ∷ front) v rest = behind_front front v rest

abbrev empty : ℕ → List Local
empty n = replicate n None

long_replicate : (n : ℕ) → length (empty n) ≡ n
long_replicate zero = refl
long_replicate (suc n) = ap suc (long_replicate n)

pub one_place : (v : Word) → is_long v ≡ false → places_of (v ∷ []) ≡ 1
unfolding onto
one_place v e = ap (λ (b : Bool). length ((if b then Some v ∷ None ∷ [] else Some v ∷ []) ++ [])) e

module _ (values : List Word) (k : List Item) where
  handed_onto : (rest : List Local) → onto (Ctx k ∷ values) rest ≡ onto values [] ++ Some (Ctx k) ∷ rest
  unfolding onto
  handed_onto rest = onto_front values (Some (Ctx k) ∷ rest)

  pub places_handed : places_of (Ctx k ∷ values) ≡ places_of values + 1
  places_handed = ap length (handed_onto []) ∙ length-append (onto values []) (Some (Ctx k) ∷ [])

  module _ (most local : ℕ) (le : most ≤ local) (lt : places_of values < local) where
    abbrev old : List Local
    old = locals_of most values

    abbrev new : List Local
    new = locals_of (local + 1) (Ctx k ∷ values)

    old_is : old ≡ onto values [] ++ replicate (most - places_of values) None
    old_is = onto_front values (replicate (most - places_of values) None)

    abbrev rest : List Local
    rest = replicate (local + 1 - places_of (Ctx k ∷ values)) None

    new_is : new ≡ onto values [] ++ Some (Ctx k) ∷ rest
    new_is = handed_onto rest

    pub pushed_stand : LocalsStand old new
    pushed_stand =
        subst (λ (xs : List Local). LocalsStand xs new) (sym old_is)
        (subst (λ (ys : List Local). LocalsStand (onto values [] ++ replicate (most - places_of values) None) ys) (sym new_is)
        (front_stands (onto values []) (most - places_of values) (Some (Ctx k) ∷ rest)))

    pub handed_at : local_at new (places_of values) ≡ Some (Ctx k)
    handed_at = ap (λ (ys : List Local). local_at ys (places_of values)) new_is ∙ behind_front (onto values []) (Ctx k) rest

    pub old_short : length old ≤ local
    old_short =
        let e = ap length old_is ∙ length-append (onto values []) (replicate (most - places_of values) None) in
        let n = long_replicate (most - places_of values) in
        omega (arith, e, n, le, lt)

    pub new_long : length new ≡ local + 1
    new_long =
        let e = ap length new_is ∙ length-append (onto values []) (Some (Ctx k) ∷ rest) in
        let n = long_replicate (local + 1 - places_of (Ctx k ∷ values)) in
        let h = places_handed in
        omega (arith, e, n, h, lt)

-- ---- with the context in its local

module _ (xs ys : List Local) (local : ℕ) (v : Word) where
  pub kept_stand : LocalsStand xs ys → length xs ≤ local → LocalsStand xs (slice_set ys local (Some v))
  kept_stand stand le n w e = set_other ys local n (Some v) (let lt = within xs n w e in omega (arith, lt, le)) ∙ stand n w e

  pub kept_at : length ys ≡ local + 1 → local_at (slice_set ys local (Some v)) local ≡ Some v
  kept_at long = set_same ys local v (omega (arith, long))

  pub kept_long : length ys ≡ local + 1 → length (slice_set ys local (Some v)) ≡ local + 1
  kept_long long = set_long ys local (Some v) ∙ long
