-- What a table keeps, when another thread is put in a place.
use Rattle.std.proofs.Common.{◌≡◌, ◌<◌, ◌≤◌, ◌^◌, ℕ, ◌+◌, ◌++◌, List, ◌∷◌, Bool, Option, Some, None, length, refl, ap, sym, ◌∙◌, arith, cond, inl, inr, rules, subst}
use Rattle.std.specs.Prelude.{IfSome, OnSome, IsSome, slice_set, get_or}
use Rattle.std.specs.List.{filter, range_with_len, remove}
use Rattle.std.proofs.lemmas.Bool.{cases_order, eq-eqb}
use Rattle.std.proofs.lemmas.List.{get_or-set_other, get_or-set_same, get_or_default, length-append, length-set}
use Rattle.std.proofs.lemmas.List.FromFn.{length-range_with_len}
use Rattle.std.proofs.lemmas.List.Sums.{count_by-le-length, length-filter}
use Rattle.jthreads.specs.declared.queue.Queue.{Queue}
use Rattle.jthreads.specs.declared.thread.Thread.{Thread}
use Rattle.jthreads.specs.ThreadQueues.{AreCounted, AreNamed, IsBetween, alone, before, behind, queue_at, waiting, waits}
use Rattle.jthreads.specs.ThreadTables.{is_runnable, runnable_numbers, thread_at, unstarted}
use Rattle.jthreads.specs.ProofNames.{is_at}
use Rattle.jthreads.proofs.WaiterCounts.{count_put, some_wait}
use Rattle.jthreads.proofs.RunnableNeighbours.{around, around_put, between, taken_away}

-- ---- readings

pub here : (threads : List Thread) (i : ℕ) (x : Thread) → i < length threads → x ≡ get_or threads i x → x ≡ thread_at threads i
here threads i x lt e = e ∙ get_or_default threads i x unstarted lt

some_in : (P : ℕ → Type 0) (o : Option ℕ) (k : ℕ) → IfSome o P → o ≡ Some k → P k
some_in P o k h e = subst (λ w. IfSome w P) e h

abbrev bit : Bool → ℕ
bit b = cond b 1 0

pub within : (o : Option ℕ) (m n : ℕ) → m ≡ n → IfSome o (λ k. k < m) → IfSome o (λ k. k < n)
within o m n e h = subst (λ x. IfSome o (λ k. k < x)) e h

-- ---- counts

pub less_some : (threads : List Thread) (queues : List Queue) (i : ℕ) (o : Option ℕ) → AreCounted threads queues → AreNamed threads → i < length threads
    → (thread_at threads i).waits_for ≡ o → IfSome o (λ t. 0 < (queue_at queues t).waiting)
less_some threads queues i None counted named lt w = tt
less_some threads queues i (Some k) counted named lt w = omega (arith, counted.1 k (named i k w), some_wait threads i k lt w (eq-eqb k k refl))

pub less_named : (threads : List Thread) (queues : List Queue) (i : ℕ) (o : Option ℕ) → AreCounted threads queues → AreNamed threads
    → (thread_at threads i).waits_for ≡ o → IfSome o (λ t. t < length queues)
less_named threads queues i None counted named w = tt
less_named threads queues i (Some k) counted named w = omega (arith, counted.0, named i k w)

pub more_few : (threads : List Thread) (q r : List Queue) (o w : Option ℕ) → AreCounted threads q → length threads ≤ 2 ^ 32 → IfSome o (λ k. k < length threads)
    → ((k : ℕ) → (queue_at r k).waiting + cond (is_at k w) 1 0 ≡ (queue_at q k).waiting) → IfSome o (λ t. (queue_at r t).waiting + 1 < 2 ^ 64)
more_few threads q r None w counted small named less = tt
more_few threads q r (Some k) w counted small named less = omega (arith, less k, counted.1 k named, count_by-le-length (waits k) threads, small)

pub more_named : (threads : List Thread) (q r : List Queue) (o : Option ℕ) → AreCounted threads q → IfSome o (λ k. k < length threads) → length r ≡ length q → IfSome o (λ t. t < length r)
more_named threads q r None counted named e = tt
more_named threads q r (Some k) counted named e = omega (arith, named, e, counted.0)

pub put_counted : (threads : List Thread) (i : ℕ) (x y : Thread) (q r s : List Queue) → AreCounted threads q → i < length threads → y ≡ thread_at threads i
    → length r ≡ length q → ((k : ℕ) → (queue_at r k).waiting + cond (is_at k y.waits_for) 1 0 ≡ (queue_at q k).waiting)
    → length s ≡ length r → ((k : ℕ) → (queue_at s k).waiting ≡ (queue_at r k).waiting + cond (is_at k x.waits_for) 1 0)
    → AreCounted (slice_set threads i x) s
put_counted threads i x y q r s counted lt is e less f more = (
  omega (arith, e, f, counted.0, length-set threads i x),
  λ t at. (
      let inside : t < length threads = omega (arith, at, length-set threads i x) in
      let same : bit (is_at t y.waits_for) ≡ bit (is_at t (thread_at threads i).waits_for) = ap (λ z. bit (is_at t z.waits_for)) is in
      omega (arith, less t, more t, counted.1 t inside, count_put threads i x t lt, same)),
)

-- ---- who waits waits for a thread

pub put_named : (threads : List Thread) (i : ℕ) (x : Thread) → AreNamed threads → i < length threads → IfSome x.waits_for (λ k. k < length threads) → AreNamed (slice_set threads i x)
put_named threads i x named lt there t k w =
    let len : length (slice_set threads i x) ≡ length threads = length-set threads i x in
    elim (cases_order t i) [
      | inl e ↦ (
          let is : thread_at (slice_set threads i x) t ≡ x = ap (thread_at (slice_set threads i x)) e ∙ get_or-set_same threads i x unstarted lt in
          omega (arith, len, some_in (λ k. k < length threads) x.waits_for k there (sym (ap (λ y. y.waits_for) is) ∙ w)))
      | inr (inl less) ↦ omega (arith, len, named t k (sym (ap (λ y. y.waits_for) (get_or-set_other threads i t x unstarted (λ e. omega (arith, e, less)))) ∙ w))
      | inr (inr more) ↦ omega (arith, len, named t k (sym (ap (λ y. y.waits_for) (get_or-set_other threads i t x unstarted (λ e. omega (arith, e, more)))) ∙ w))
    ]

-- ---- who can run

pub runnable_few : (threads : List Thread) → length (runnable_numbers threads) ≤ length threads
runnable_few threads =
    let test : ℕ → Bool = λ i. is_runnable (thread_at threads i) in
    let range = range_with_len 0 (length threads) in
    omega (arith, length-filter test range, count_by-le-length test range, length-range_with_len 0 (length threads))

pub put_order : (threads : List Thread) (t : ℕ) (x : Thread) (ran runs : Bool) (old new : List ℕ) → old ≡ runnable_numbers threads → t < length threads
    → ran ≡ is_runnable (thread_at threads t) → runs ≡ is_runnable x
    → ((front back : List ℕ) → old ≡ front ++ (alone ran t ++ back) → IsBetween front t back → new ≡ front ++ (alone runs t ++ back))
    → new ≡ runnable_numbers (slice_set threads t x)
put_order threads t x ran runs old new is lt ran_is runs_is h =
    h (before threads t) (behind threads t) (is ∙ around threads t lt ∙ ap (λ b. before threads t ++ (alone b t ++ behind threads t)) (sym ran_is)) (between threads t)
    ∙ ap (λ b. before threads t ++ (alone b t ++ behind threads t)) runs_is ∙ sym (around_put threads t x lt)

-- ---- one that can run no longer

on_some : {T Q : Type 0} (o : Option T) → IsSome o → OnSome o Q → Q
on_some None i q = search rules
on_some (Some x) i q = q

pub taken_out : {T : Type 0} (t r : ℕ) (xs ys front back : List ℕ) (o : Option T) → xs ≡ front ++ t ∷ back → r ≡ length front
    → (r < length xs → IsSome o) → OnSome o (ys ≡ remove xs r) → ys ≡ front ++ back
taken_out t r xs ys front back o is r_is found items =
    let inside : r < length xs = omega (arith, r_is, ap length is, length-append front (t ∷ back)) in
    on_some o (found inside) items ∙ taken_away xs front back t r is r_is

pub named_at : (threads : List Thread) (i : ℕ) (o : Option ℕ) → AreNamed threads → (thread_at threads i).waits_for ≡ o → IfSome o (λ k. k < length threads)
named_at threads i None named e = tt
named_at threads i (Some k) named e = named i k e

pub named_now : (threads seen : List Thread) (i : ℕ) (x : Thread) → AreNamed threads → length threads ≡ length seen → x ≡ thread_at threads i → IfSome x.waits_for (λ k. k < length seen)
named_now threads seen i x named same is =
    within x.waits_for (length threads) (length seen) same (named_at threads i x.waits_for named (ap (λ y. y.waits_for) (sym is)))
