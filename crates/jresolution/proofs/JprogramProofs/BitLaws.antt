-- Sets of numbers, a bit each.
use Rattle.std.proofs.Common.{◌≡◌, ℕ, zero, suc, ◌+◌, ◌*◌, ◌/◌, ◌%◌, ◌^◌, ◌<◌, ◌≤◌, ◌⊎◌, ◌||◌, Bool, true, false, cond, List, [], ◌∷◌, ◌++◌, length, refl, sym, ap, ◌∙◌, arith, inl, inr}
use Rattle.std.specs.Prelude.{◌==◌, max, nat_lt, slice_set}
use Rattle.std.specs.Int.{bit_at, w64}
use Rattle.std.specs.Int.RustNames.{bit_and, bit_or}
use Rattle.std.proofs.lemmas.Bool.{cases_eq, cases_lt, eq-eqb, ne_eqb, lt-ltb, le-ltb}
use Rattle.std.proofs.lemmas.Nat.Bits.{bit_at-lt, bit_at-zero, bit_at_or, bit_at_set_other, bit_at_set_same, shr_and_one}
use Rattle.std.proofs.lemmas.Bool.Decides.{nat_tests}
use Rattle.jresolution.specs.jprogram.BitSets.{Joins, Puts, has, word_at}

-- ---- words

set_same : (ws : List ℕ) (i v : ℕ) → i < length ws → word_at (slice_set ws i v) i ≡ v
set_same [] i v lt = absurd (omega arith)
set_same (w ∷ ws) zero v lt = refl
set_same (w ∷ ws) (suc i) v lt = set_same ws i v (omega arith)

set_other : (ws : List ℕ) (i v j : ℕ) → (j ≡ i → ⊥) → word_at (slice_set ws i v) j ≡ word_at ws j
set_other [] i v j other = refl
set_other (w ∷ ws) zero v zero other = absurd (other refl)
set_other (w ∷ ws) zero v (suc j) other = refl
set_other (w ∷ ws) (suc i) v zero other = refl
set_other (w ∷ ws) (suc i) v (suc j) other = set_other ws i v j (λ e. other (ap (λ (k : ℕ). suc k) e))

pub set_length : (ws : List ℕ) (i v : ℕ) → length (slice_set ws i v) ≡ length ws
set_length [] i v = refl
set_length (w ∷ ws) zero v = refl
set_length (w ∷ ws) (suc i) v = ap (λ (n : ℕ). suc n) (set_length ws i v)

push_zero : (ws : List ℕ) (j : ℕ) → word_at (ws ++ 0 ∷ []) j ≡ word_at ws j
push_zero [] zero = refl
push_zero [] (suc j) = refl
push_zero (w ∷ ws) zero = refl
push_zero (w ∷ ws) (suc j) = push_zero ws j

pub grown : (old mid new : List ℕ) → ((i : ℕ) → word_at mid i ≡ word_at old i) → new ≡ mid ++ 0 ∷ [] → (i : ℕ) → word_at new i ≡ word_at old i
grown old mid new h e i = ap (λ (ws : List ℕ). word_at ws i) e ∙ push_zero mid i ∙ h i

-- ---- bits

bit_value : (w k : ℕ) → (bit_and (w / 2 ^ k) 1 == 1) ≡ (bit_at w k == 1)
bit_value w k = ap (λ (x : ℕ). x == 1) (shr_and_one w k)

pub has_some : (words : List ℕ) (n w : ℕ) → w ≡ word_at words (n / 64) → (bit_and (w / 2 ^ (n % 64)) 1 == 1) ≡ has words n
unfolding has
has_some words n w e = bit_value w (n % 64) ∙ ap (λ (x : ℕ). bit_at x (n % 64) == 1) e

no_bit : (k : ℕ) → false ≡ (bit_at 0 k == 1)
no_bit k = ap (λ (x : ℕ). x == 1) (sym (bit_at-zero k))

past_end : (ws : List ℕ) (j : ℕ) → length ws ≤ j → word_at ws j ≡ 0
past_end [] j le = refl
past_end (w ∷ ws) zero le = absurd (omega (arith, le))
past_end (w ∷ ws) (suc j) le = past_end ws j (omega (arith, le))

pub has_none : (words : List ℕ) (n : ℕ) → length words ≤ n / 64 → false ≡ has words n
unfolding has
has_none words n le = no_bit (n % 64) ∙ sym (ap (λ (x : ℕ). bit_at x (n % 64) == 1) (past_end words (n / 64) le))

pub has_nothing : (n : ℕ) → has [] n ≡ false
unfolding has
has_nothing n = sym (no_bit (n % 64))

one_of : (x y z : ℕ) → x < 2 → y < 2 → z ≡ max x y → (z == 1) ≡ ((x == 1) || (y == 1))
one_of x y z a b e = grind (arith, nat_tests)

or_bit : (a b k : ℕ) → (bit_at (bit_or a b) k == 1) ≡ ((bit_at a k == 1) || (bit_at b k == 1))
or_bit a b k = one_of (bit_at a k) (bit_at b k) (bit_at (bit_or a b) k) (bit_at-lt a k) (bit_at-lt b k) (bit_at_or a b k)

or_true : (b : Bool) → (b || true) ≡ true
or_true true = refl
or_true false = refl

or_false : (b : Bool) → (b || false) ≡ b
or_false true = refl
or_false false = refl

-- ---- a number more

put_at : (ws : List ℕ) (number v n : ℕ) → number / 64 < length ws → v ≡ bit_or (word_at ws (number / 64)) (1 * 2 ^ (number % 64) % 2 ^ 64) → (n / 64 ≡ number / 64) ⊎ (n / 64 ≡ number / 64 → ⊥) → (n % 64 ≡ number % 64) ⊎ (n % 64 ≡ number % 64 → ⊥)
    → has (slice_set ws (number / 64) v) n ≡ (has ws n || n == number)
unfolding has
put_at ws number v n lt is (inl place) (inl bit) =
    let same : n ≡ number = omega (arith, place, bit) in
    let here : word_at (slice_set ws (number / 64) v) (n / 64) ≡ v = ap (word_at (slice_set ws (number / 64) v)) place ∙ set_same ws (number / 64) v lt in
    let one : bit_at v (n % 64) ≡ 1 = ap (bit_at v) bit ∙ ap (λ (x : ℕ). bit_at x (number % 64)) is ∙ bit_at_set_same w64 (word_at ws (number / 64)) (number % 64) (omega arith) in
    let left : (bit_at (word_at (slice_set ws (number / 64) v) (n / 64)) (n % 64) == 1) ≡ true = ap (λ (x : ℕ). bit_at x (n % 64) == 1) here ∙ eq-eqb (bit_at v (n % 64)) 1 one in
    left ∙ sym (ap (λ (b : Bool). (bit_at (word_at ws (n / 64)) (n % 64) == 1) || b) (eq-eqb n number same) ∙ or_true (bit_at (word_at ws (n / 64)) (n % 64) == 1))
put_at ws number v n lt is (inl place) (inr bit) =
    let apart : n ≡ number → ⊥ = λ e. bit (ap (λ (x : ℕ). x % 64) e) in
    let here : word_at (slice_set ws (number / 64) v) (n / 64) ≡ v = ap (word_at (slice_set ws (number / 64) v)) place ∙ set_same ws (number / 64) v lt in
    let one : bit_at v (n % 64) ≡ bit_at (word_at ws (n / 64)) (n % 64) = ap (λ (x : ℕ). bit_at x (n % 64)) is ∙ bit_at_set_other w64 (word_at ws (number / 64)) (number % 64) (omega arith) (n % 64) bit ∙ ap (λ (x : ℕ). bit_at (word_at ws x) (n % 64)) (sym place) in
    ap (λ (x : ℕ). bit_at x (n % 64) == 1) here ∙ ap (λ (x : ℕ). x == 1) one ∙ sym (ap (λ (b : Bool). (bit_at (word_at ws (n / 64)) (n % 64) == 1) || b) (ne_eqb n number apart) ∙ or_false (bit_at (word_at ws (n / 64)) (n % 64) == 1))
put_at ws number v n lt is (inr place) c =
    let apart : n ≡ number → ⊥ = λ e. place (ap (λ (x : ℕ). x / 64) e) in
    ap (λ (x : ℕ). bit_at x (n % 64) == 1) (set_other ws (number / 64) v (n / 64) place) ∙ sym (ap (λ (b : Bool). (bit_at (word_at ws (n / 64)) (n % 64) == 1) || b) (ne_eqb n number apart) ∙ or_false (bit_at (word_at ws (n / 64)) (n % 64) == 1))

has_same : (ws old : List ℕ) → ((i : ℕ) → word_at ws i ≡ word_at old i) → (n : ℕ) → has ws n ≡ has old n
unfolding has
has_same ws old h n = ap (λ (x : ℕ). bit_at x (n % 64) == 1) (h (n / 64))

pub puts : (old ws new : List ℕ) (number v : ℕ) → ((i : ℕ) → word_at ws i ≡ word_at old i) → number / 64 < length ws → v ≡ bit_or (word_at ws (number / 64)) (1 * 2 ^ (number % 64) % 2 ^ 64) → new ≡ slice_set ws (number / 64) v → Puts number old new
puts old ws new number v h lt is e n =
    ap (λ (xs : List ℕ). has xs n) e
    ∙ put_at ws number v n lt is (cases_eq (n / 64) (number / 64)) (cases_eq (n % 64) (number % 64))
    ∙ ap (λ (b : Bool). b || n == number) (has_same ws old h n)

-- ---- those of another set

-- the words at the first i places have those of the other set besides, the rest are as before
pub Joined : List ℕ → List ℕ → ℕ → List ℕ → Type 0
Joined other old i new = (j : ℕ) → word_at new j ≡ cond (nat_lt j i) (bit_or (word_at old j) (word_at other j)) (word_at old j)

pub joined_none : (other old new : List ℕ) → ((i : ℕ) → word_at new i ≡ word_at old i) → Joined other old 0 new
unfolding Joined
joined_none other old new h j = h j ∙ sym (ap (λ (b : Bool). cond b (bit_or (word_at old j) (word_at other j)) (word_at old j)) (le-ltb j 0 (omega arith)))

next_at : (other old ws : List ℕ) (i v j : ℕ) → Joined other old i ws → i < length ws → v ≡ bit_or (word_at ws i) (word_at other i) → (j ≡ i) ⊎ (j ≡ i → ⊥) → word_at (slice_set ws i v) j ≡ cond (nat_lt j (i + 1)) (bit_or (word_at old j) (word_at other j)) (word_at old j)
unfolding Joined
next_at other old ws i v j h lt is (inl same) =
    let here : nat_lt j (i + 1) ≡ true = lt-ltb j (i + 1) (omega (arith, same)) in
    let not_yet : nat_lt i i ≡ false = le-ltb i i (omega arith) in
    let was : word_at ws i ≡ word_at old i = h i ∙ ap (λ (b : Bool). cond b (bit_or (word_at old i) (word_at other i)) (word_at old i)) not_yet in
    ap (word_at (slice_set ws i v)) same ∙ set_same ws i v lt ∙ is ∙ ap (λ (x : ℕ). bit_or x (word_at other i)) was ∙ ap (λ (k : ℕ). bit_or (word_at old k) (word_at other k)) (sym same) ∙ sym (ap (λ (b : Bool). cond b (bit_or (word_at old j) (word_at other j)) (word_at old j)) here)
next_at other old ws i v j h lt is (inr apart) = set_other ws i v j apart ∙ h j ∙ ap (λ (b : Bool). cond b (bit_or (word_at old j) (word_at other j)) (word_at old j)) (same_test j i apart)
  where
    same_test : (j i : ℕ) → (j ≡ i → ⊥) → nat_lt j i ≡ nat_lt j (i + 1)
    same_test j i apart = elim (cases_lt j i) [
      | inl less ↦ lt-ltb j i less ∙ sym (lt-ltb j (i + 1) (omega (arith, less)))
      | inr more ↦ le-ltb j i more ∙ sym (elim (cases_lt i j) [ inl l ↦ le-ltb j (i + 1) (omega (arith, l)) | inr l ↦ absurd (apart (omega (arith, l, more))) ])
    ]

pub joined_next : (other old ws new : List ℕ) (i v : ℕ) → Joined other old i ws → i < length ws → v ≡ bit_or (word_at ws i) (word_at other i) → new ≡ slice_set ws i v → Joined other old (i + 1) new
unfolding Joined
joined_next other old ws new i v h lt is e j = ap (λ (xs : List ℕ). word_at xs j) e ∙ next_at other old ws i v j h lt is (cases_eq j i)

joined_bit : (other old new : List ℕ) (i j k : ℕ) → Joined other old i new → length other ≤ i → (j < i) ⊎ (i ≤ j) → (bit_at (word_at new j) k == 1) ≡ ((bit_at (word_at old j) k == 1) || (bit_at (word_at other j) k == 1))
unfolding Joined
joined_bit other old new i j k h le (inl lt) =
    let is : word_at new j ≡ bit_or (word_at old j) (word_at other j) = h j ∙ ap (λ (b : Bool). cond b (bit_or (word_at old j) (word_at other j)) (word_at old j)) (lt-ltb j i lt) in
    ap (λ (x : ℕ). bit_at x k == 1) is ∙ or_bit (word_at old j) (word_at other j) k
joined_bit other old new i j k h le (inr ge) =
    let is : word_at new j ≡ word_at old j = h j ∙ ap (λ (b : Bool). cond b (bit_or (word_at old j) (word_at other j)) (word_at old j)) (le-ltb j i ge) in
    let none : word_at other j ≡ 0 = past_end other j (omega (arith, le, ge)) in
    ap (λ (x : ℕ). bit_at x k == 1) is ∙ sym (ap (λ (x : ℕ). (bit_at (word_at old j) k == 1) || (bit_at x k == 1)) none ∙ ap (λ (b : Bool). (bit_at (word_at old j) k == 1) || b) (sym (no_bit k)) ∙ or_false (bit_at (word_at old j) k == 1))

pub joins : (other old new : List ℕ) (i : ℕ) → Joined other old i new → length other ≤ i → Joins other old new
unfolding has
joins other old new i h le n = joined_bit other old new i (n / 64) (n % 64) h le (cases_lt (n / 64) i)
