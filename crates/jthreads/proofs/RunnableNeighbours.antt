-- The runnable numbers around one thread: those before it, itself where it can run, those behind it.
use Rattle.std.proofs.Common.{◌≡◌, ◌<◌, ◌≤◌, ℕ, ◌+◌, ◌-◌, List, ◌∷◌, ◌++◌, [], suc, zero, Bool, true, false, length, refl, ap, ◌∙◌, arith, cond, inl, inr}
use Rattle.std.specs.Prelude.{get_or, take, drop, slice_set, nat_lt}
use Rattle.std.specs.List.{All, filter, insert, range_with_len, remove}
use Rattle.std.specs.List.Sorted.{IsPartitionPoint, IsPartitionedBy}
use Rattle.std.proofs.lemmas.Bool.{cases_order, lt-ltb, ltb-false, ltb-true}
use Rattle.std.proofs.lemmas.List.{get_or-append_right, get_or-set_other, get_or-set_same, get_or_append_left, length-append, length-set}
use Rattle.std.proofs.lemmas.List.Elements.{All-filter, filter-append}
use Rattle.std.proofs.lemmas.List.FromFn.{get_or-range_with_len, length-range_with_len}
use Rattle.std.proofs.Math.Seq.{drop-append-add, drop-append_seam, take-append_seam}
use Rattle.jthreads.specs.declared.thread.Thread.{Thread}
use Rattle.jthreads.specs.ThreadQueues.{IsBetween, alone, before, behind}
use Rattle.jthreads.specs.ThreadTables.{is_runnable, runnable_numbers, thread_at, unstarted}

-- ---- ranges in parts

range_parts : (m a k b j : ℕ) → m + k ≡ j → a + m ≡ b → range_with_len a j ≡ range_with_len a m ++ range_with_len b k
range_parts zero a k b j ej eb = ap (λ x. range_with_len x j) (omega (arith, eb)) ∙ ap (range_with_len b) (omega (arith, ej))
range_parts (suc m) a k b zero ej eb = absurd (omega (arith, ej))
range_parts (suc m) a k b (suc j) ej eb = ap (λ xs. a ∷ xs) (range_parts m (a + 1) k b j (omega (arith, ej)) (omega (arith, eb)))

split : (p : ℕ → Bool) (t n : ℕ) → t < n
    → filter p (range_with_len 0 n) ≡ filter p (range_with_len 0 t) ++ (filter p (t ∷ []) ++ filter p (range_with_len (t + 1) (n - (t + 1))))
split p t n lt =
    let rest : 1 + (n - (t + 1)) ≡ n - t = omega (arith, lt) in
    let all : t + (n - t) ≡ n = omega (arith, lt) in
    ap (filter p) (range_parts t 0 (n - t) t n all (omega arith))
    ∙ filter-append p (range_with_len 0 t) (range_with_len t (n - t))
    ∙ ap (λ xs. filter p (range_with_len 0 t) ++ xs)
    (ap (filter p) (range_parts 1 t (n - (t + 1)) (t + 1) (n - t) rest refl) ∙ filter-append p (t ∷ []) (range_with_len (t + 1) (n - (t + 1))))

pub same_on : (p q : ℕ → Bool) (n a : ℕ) → ((k : ℕ) → a ≤ k → k < a + n → p k ≡ q k) → filter p (range_with_len a n) ≡ filter q (range_with_len a n)
same_on p q zero a h = refl
same_on p q (suc n) a h =
    ap (λ b. cond b (a ∷ filter p (range_with_len (a + 1) n)) (filter p (range_with_len (a + 1) n))) (h a (omega arith) (omega arith))
    ∙ ap (λ ys. cond (q a) (a ∷ ys) ys) (same_on p q n (a + 1) (λ k l u. h k (omega (arith, l)) (omega (arith, u))))

-- ---- around a thread

one : (p : ℕ → Bool) (t : ℕ) → filter p (t ∷ []) ≡ alone (p t) t
one p t = refl

pub around : (threads : List Thread) (t : ℕ) → t < length threads
    → runnable_numbers threads ≡ before threads t ++ (alone (is_runnable (thread_at threads t)) t ++ behind threads t)
around threads t lt = split (λ i. is_runnable (thread_at threads i)) t (length threads) lt

abbrev runs_of : List Thread → ℕ → Bool
runs_of threads i = is_runnable (thread_at threads i)

other : (threads : List Thread) (t : ℕ) (x : Thread) (k : ℕ) → (k ≡ t → ⊥) → runs_of (slice_set threads t x) k ≡ runs_of threads k
other threads t x k ne = ap is_runnable (get_or-set_other threads t k x unstarted ne)

-- with another thread in its place
pub around_put : (threads : List Thread) (t : ℕ) (x : Thread) → t < length threads
    → runnable_numbers (slice_set threads t x) ≡ before threads t ++ (alone (is_runnable x) t ++ behind threads t)
around_put threads t x lt =
    let set = slice_set threads t x in
    let len : length set ≡ length threads = length-set threads t x in
    around set t (omega (arith, lt, len))
    ∙ ap (λ xs. xs ++ (alone (runs_of set t) t ++ behind set t)) (same_on (runs_of set) (runs_of threads) t 0 (λ k l u. other threads t x k (λ e. omega (arith, e, u))))
    ∙ ap (λ b. before threads t ++ (alone (is_runnable b) t ++ behind set t)) (get_or-set_same threads t x unstarted lt)
    ∙ ap (λ n. before threads t ++ (alone (is_runnable x) t ++ filter (runs_of set) (range_with_len (t + 1) (n - (t + 1))))) len
    ∙ ap (λ xs. before threads t ++ (alone (is_runnable x) t ++ xs))
    (same_on (runs_of set) (runs_of threads) (length threads - (t + 1)) (t + 1) (λ k l u. other threads t x k (λ e. omega (arith, e, l))))

above : (a n b : ℕ) → b < a → All (λ i. b < i) (range_with_len a n)
above a n b lt k d at =
    let inside : k < n = omega (arith, at, length-range_with_len a n) in
    omega (arith, lt, get_or-range_with_len a n k d inside)

under : (n : ℕ) → All (λ i. i < n) (range_with_len 0 n)
under n k d at =
    let inside : k < n = omega (arith, at, length-range_with_len 0 n) in
    omega (arith, inside, get_or-range_with_len 0 n k d inside)

pub between : (threads : List Thread) (t : ℕ) → IsBetween (before threads t) t (behind threads t)
between threads t = (
  All-filter (runs_of threads) (λ i. i < t) (range_with_len 0 t) (under t),
  All-filter (runs_of threads) (λ i. t < i) (range_with_len (t + 1) (length threads - (t + 1))) (above (t + 1) (length threads - (t + 1)) t (omega arith)),
)

-- ---- where a number has its place

pub rest_high : (t : ℕ) (back : List ℕ) → All (λ i. t < i) back → All (λ i. t ≤ i) back
rest_high t back high k d at = omega (arith, high k d at)

pub rest_with : (t : ℕ) (back : List ℕ) → All (λ i. t < i) back → All (λ i. t ≤ i) (t ∷ back)
rest_with t back high zero d at = omega arith
rest_with t back high (suc k) d at = omega (arith, high k d (omega (arith, at)))

module _ (t : ℕ) (xs front back : List ℕ) (is : xs ≡ front ++ back) (low : All (λ i. i < t) front) (high : All (λ i. t ≤ i) back) where
  len : length xs ≡ length front + length back
  len = ap length is ∙ length-append front back

  in_front : (k d : ℕ) → k < length front → get_or xs k d < t
  in_front k d lt =
      let got : get_or xs k d ≡ get_or front k d = ap (λ ys. get_or ys k d) is ∙ get_or_append_left front back d k lt in
      omega (arith, got, low k d lt)

  in_back : (k d : ℕ) → length front ≤ k → k < length xs → t ≤ get_or xs k d
  in_back k d le lt =
      let got : get_or xs k d ≡ get_or back (k - length front) d = ap (λ ys. get_or ys k d) is ∙ get_or-append_right front back (length front) k d refl le in
      omega (arith, got, high (k - length front) d (omega (arith, le, lt, len)))

  before_back : (k d : ℕ) → k < length xs → get_or xs k d < t → k < length front
  before_back k d inside lt = elim (cases_order k (length front)) [
    | inl e ↦ absurd (omega (arith, lt, in_back k d (omega (arith, e)) inside))
    | inr (inl less) ↦ less
    | inr (inr more) ↦ absurd (omega (arith, lt, in_back k d (omega (arith, more)) inside))
  ]

  pub parted : IsPartitionedBy (λ i. nat_lt i t) xs
  parted i j d le inside h =
      let at : j < length front = before_back j d inside (ltb-true (get_or xs j d) t h) in
      lt-ltb (get_or xs i d) t (in_front i d (omega (arith, le, at)))

  pub place : (r : ℕ) → r ≤ length xs → IsPartitionPoint (λ i. nat_lt i t ≡ true) (λ i. nat_lt i t ≡ false) xs r → r ≡ length front
  place r bound point = elim (cases_order r (length front)) [
    | inl e ↦ e
    | inr (inl less) ↦ absurd (
        let no : t ≤ get_or xs r 0 = ltb-false (get_or xs r 0) t (point.1 r 0 (omega arith) (omega (arith, less, len))) in
        omega (arith, no, in_front r 0 less))
    | inr (inr more) ↦ absurd (
        let yes : get_or xs (length front) 0 < t = ltb-true (get_or xs (length front) 0) t (point.0 (length front) 0 (omega arith) more) in
        omega (arith, yes, in_back (length front) 0 (omega arith) (omega (arith, more, bound))))
  ]

-- it is put there, or taken away
pub put_there : (xs front back : List ℕ) (t r : ℕ) → xs ≡ front ++ back → r ≡ length front → insert xs r t ≡ front ++ t ∷ back
put_there xs front back t r is at =
    ap (λ n. insert xs n t) at ∙ ap (λ ys. insert ys (length front) t) is
    ∙ ap (λ ys. ys ++ t ∷ drop (length front) (front ++ back)) (take-append_seam front back)
    ∙ ap (λ ys. front ++ t ∷ ys) (drop-append_seam front back)

pub taken_away : (xs front back : List ℕ) (t r : ℕ) → xs ≡ front ++ t ∷ back → r ≡ length front → remove xs r ≡ front ++ back
taken_away xs front back t r is at =
    ap (remove xs) at ∙ ap (λ ys. remove ys (length front)) is
    ∙ ap (λ ys. ys ++ drop (suc (length front)) (front ++ t ∷ back)) (take-append_seam front (t ∷ back))
    ∙ ap (λ ys. front ++ ys) (ap (λ n. drop n (front ++ t ∷ back)) {x = suc (length front)} {y = length front + 1} (omega arith) ∙ drop-append-add front (t ∷ back) 1)
