-- What a table keeps, with one thread more that isn't started.
use Rattle.std.proofs.Common.{◌≡◌, ◌<◌, ◌≤◌, ℕ, ◌+◌, ◌++◌, List, ◌∷◌, [], suc, Bool, false, Option, Some, None, length, refl, ap, sym, ◌∙◌, arith, cond, inl, inr, rules}
use Rattle.std.specs.Prelude.{get_or}
use Rattle.std.specs.List.{filter, range_with_len, sum_by}
use Rattle.std.proofs.lemmas.Bool.{cases_order, ne_eqb}
use Rattle.std.proofs.lemmas.List.{append-nil, get_or-append-add, get_or_append_left, length-append}
use Rattle.std.proofs.lemmas.List.Sums.{sum_by-append}
use Rattle.std.proofs.Math.ListN.{get_or-eq_default}
use Rattle.jthreads.specs.declared.queue.Queue.{Queue}
use Rattle.jthreads.specs.declared.thread.Thread.{Thread}
use Rattle.jthreads.specs.ThreadQueues.{AreCounted, AreNamed, nobody, queue_at, waiting, waits}
use Rattle.jthreads.specs.ThreadTables.{added, is_runnable, runnable_numbers, thread_at, unstarted}
use Rattle.jthreads.specs.ProofNames.{is_at}
use Rattle.jthreads.proofs.RunnableNumbers.{filter_more}
use Rattle.jthreads.proofs.RunnableNeighbours.{same_on}

abbrev bit : ℕ → Thread → ℕ
bit t x = cond (waits t x) 1 0

pub len : (threads : List Thread) → length (added threads) ≡ length threads + 1
len threads = length-append threads (unstarted ∷ [])

last : (threads : List Thread) → thread_at (added threads) (length threads) ≡ unstarted
last threads = ap (λ n. thread_at (added threads) n) {x = length threads} {y = length threads + 0} (omega arith) ∙ get_or-append-add threads (unstarted ∷ []) 0 unstarted

first : (threads : List Thread) (k : ℕ) → k < length threads → thread_at (added threads) k ≡ thread_at threads k
first threads k lt = get_or_append_left threads (unstarted ∷ []) unstarted k lt

-- ---- counts

nobody_waits : (t : ℕ) (xs : List Thread) → ((k : ℕ) → k < length xs → waits t (thread_at xs k) ≡ false) → waiting t xs ≡ 0
nobody_waits t [] h = refl
nobody_waits t (x ∷ xs) h =
    let no : ℕ = 0 in
    let yes : ℕ = 1 in
    let one : bit t x ≡ no = ap (λ b. cond b yes no) (h 0 (omega arith)) in
    let rest : waiting t xs ≡ 0 = nobody_waits t xs (λ k lt. h (suc k) (omega (arith, lt))) in
    omega (arith, sum_by-append (bit t) (x ∷ []) xs, one, rest)

elsewhere : (t n : ℕ) (o : Option ℕ) → n ≤ t → ((k : ℕ) → o ≡ Some k → k < n) → is_at t o ≡ false
elsewhere t n None le h = refl
elsewhere t n (Some k) le h = ne_eqb k t (λ e. omega (arith, e, le, h k refl))

same_count : (threads : List Thread) (t : ℕ) → waiting t (added threads) ≡ waiting t threads
same_count threads t = omega (arith, sum_by-append (bit t) threads (unstarted ∷ []))

pub push_counted : (threads : List Thread) (queues : List Queue) → AreCounted threads queues → AreNamed threads → AreCounted (added threads) (queues ++ nobody ∷ [])
push_counted threads queues counted named = (
  omega (arith, counted.0, len threads, length-append queues (nobody ∷ [])),
  λ t lt. elim (cases_order t (length threads)) [
    | inl e ↦ (
        let at : queue_at (queues ++ nobody ∷ []) t ≡ nobody = ap (λ n. queue_at (queues ++ nobody ∷ []) n) {x = t} {y = length queues + 0} (omega (arith, e, counted.0)) ∙ get_or-append-add queues (nobody ∷ []) 0 nobody in
        let none : waiting t threads ≡ 0 = nobody_waits t threads (λ k l. elsewhere t (length threads) (thread_at threads k).waits_for (omega (arith, e)) (named k)) in
        ap (λ q. q.waiting) at ∙ sym (same_count threads t ∙ none))
    | inr (inl less) ↦ ap (λ q. q.waiting) (get_or_append_left queues (nobody ∷ []) nobody t (omega (arith, less, counted.0))) ∙ counted.1 t less ∙ sym (same_count threads t)
    | inr (inr more) ↦ absurd (omega (arith, more, lt, len threads))
  ],
)

-- ---- who waits waits for a thread

none_some : (x : Thread) (k : ℕ) → x ≡ unstarted → x.waits_for ≡ Some k → ⊥
none_some x k e w =
    let no : None ≡ Some k = sym (ap (λ y. y.waits_for) e) ∙ w in
    search rules

pub push_named : (threads : List Thread) → AreNamed threads → AreNamed (added threads)
push_named threads named t k w = elim (cases_order t (length threads)) [
  | inl e ↦ absurd (none_some (thread_at (added threads) t) k (ap (thread_at (added threads)) e ∙ last threads) w)
  | inr (inl less) ↦ omega (arith, len threads, named t k (sym (ap (λ y. y.waits_for) (first threads t less)) ∙ w))
  | inr (inr more) ↦ absurd (none_some (thread_at (added threads) t) k (get_or-eq_default (added threads) unstarted (omega (arith, more, len threads))) w)
]

-- ---- who can run

abbrev runs_of : List Thread → ℕ → Bool
runs_of threads i = is_runnable (thread_at threads i)

pub push_order : (threads : List Thread) → runnable_numbers (added threads) ≡ runnable_numbers threads
push_order threads =
    let n = length threads in
    let more = runs_of (added threads) in
    let no : more n ≡ false = ap is_runnable (last threads) in
    ap (λ m. filter more (range_with_len 0 m)) (len threads) ∙ filter_more more n
    ∙ ap (λ b. filter more (range_with_len 0 n) ++ cond b (n ∷ []) []) no
    ∙ append-nil (filter more (range_with_len 0 n))
    ∙ same_on more (runs_of threads) n 0 (λ k l u. ap is_runnable (first threads k (omega (arith, u))))
