-- The numbers of the runnable threads: one more thread at a time, and which numbers are among them.
use Rattle.std.proofs.Common.{◌≡◌, ◌<◌, ◌≤◌, ℕ, ◌+◌, ◌∷◌, ◌++◌, [], suc, zero, Bool, true, ap, ◌∙◌, arith, subst, inl, inr}
use Rattle.std.proofs.Math.Nat.{eq-or-lt_of_le}
use Rattle.std.specs.List.{All, Contains, filter, range_with_len}
use Rattle.std.specs.List.Sorted.{IsStrictlyIncreasing}
use Rattle.std.proofs.lemmas.List.Elements.{All-contains, All-filter, Contains-append_left, Contains-append_right, Contains-push, filter-append, filter_passes}
use Rattle.std.proofs.lemmas.List.FromFn.{get_or-range_with_len, length-range_with_len}
use Rattle.std.proofs.lemmas.List.Kept.{IsStrictlyIncreasing-filter}

range_more : (a n j : ℕ) → a + n ≡ j → range_with_len a (suc n) ≡ range_with_len a n ++ j ∷ []
range_more a zero j e = ap (λ x. x ∷ []) (omega (arith, e))
range_more a (suc n) j e = ap (λ xs. a ∷ xs) (range_more (a + 1) n j (omega (arith, e)))

filter_next : (p : ℕ → Bool) (i : ℕ) → filter p (range_with_len 0 (suc i)) ≡ filter p (range_with_len 0 i) ++ filter p (i ∷ [])
filter_next p i = ap (filter p) (range_more 0 i i (omega arith)) ∙ filter-append p (range_with_len 0 i) (i ∷ [])

pub filter_more : (p : ℕ → Bool) (i : ℕ) → filter p (range_with_len 0 (i + 1)) ≡ filter p (range_with_len 0 i) ++ filter p (i ∷ [])
filter_more p i =
    let next : i + 1 ≡ suc i = omega arith in
    ap (λ n. filter p (range_with_len 0 n)) next ∙ filter_next p i

-- the numbers rise
pub rising : (p : ℕ → Bool) (n : ℕ) → IsStrictlyIncreasing (filter p (range_with_len 0 n))
rising p n = IsStrictlyIncreasing-filter p (range_with_len 0 n) (λ k lt.
    let next : k + 1 < n = omega (arith, lt, length-range_with_len 0 n) in
    let this : k < n = omega (arith, next) in
    omega (arith, get_or-range_with_len 0 n k 0 this, get_or-range_with_len 0 n (k + 1) 0 next))

-- each passes the test, and is below n
pub passing : (p : ℕ → Bool) (n t : ℕ) → Contains (filter p (range_with_len 0 n)) t → p t ≡ true
passing p n t there = All-contains (λ i. p i ≡ true) (filter p (range_with_len 0 n)) t (filter_passes p (range_with_len 0 n)) there

pub within : (p : ℕ → Bool) (n t : ℕ) → Contains (filter p (range_with_len 0 n)) t → t < n
within p n t there =
    let below : All (λ i. i < n) (range_with_len 0 n) = λ k d lt. (let at : k < n = omega (arith, lt, length-range_with_len 0 n) in omega (arith, at, get_or-range_with_len 0 n k d at)) in
    All-contains (λ i. i < n) (filter p (range_with_len 0 n)) t (All-filter p (λ i. i < n) (range_with_len 0 n) below) there

kept_alone : (p : ℕ → Bool) (n : ℕ) → p n ≡ true → Contains (filter p (n ∷ [])) n
kept_alone p n h = rw h (Contains-push [] n)

-- each number below n that passes the test is there
pub every : (p : ℕ → Bool) (t n : ℕ) → t < n → p t ≡ true → Contains (filter p (range_with_len 0 n)) t
every p t zero lt h = absurd (omega (arith, lt))
every p t (suc n) lt h =
    let upto : t ≤ n = omega (arith, lt) in
    rw (filter_next p n) (elim (eq-or-lt_of_le upto) [
      | inl last ↦ Contains-append_right (filter p (range_with_len 0 n)) (filter p (n ∷ [])) t (subst (λ i. Contains (filter p (i ∷ [])) t) last (kept_alone p t h))
      | inr before ↦ Contains-append_left (filter p (range_with_len 0 n)) (filter p (n ∷ [])) t (every p t n before h)
    ])
