-- How many wait for a thread: with another thread in a place, and where it is nobody.
use Rattle.std.proofs.Common.{◌≡◌, ◌<◌, ℕ, ◌+◌, List, ◌∷◌, [], Bool, true, false, Some, None, length, refl, ap, ◌∙◌, arith, cond, map}
use Rattle.std.specs.Prelude.{if◌then◌else◌, slice_set}
use Rattle.std.specs.List.{sum_by}
use Rattle.std.proofs.lemmas.List.Sums.{sum_by-append, sum_by-set}
use Rattle.jthreads.specs.declared.thread.Thread.{Thread}
use Rattle.jthreads.specs.ThreadQueues.{waiting, waits}
use Rattle.jthreads.specs.ThreadTables.{thread_at, unstarted, woken}
use Rattle.jthreads.specs.ProofNames.{is_at}

abbrev bit : ℕ → Thread → ℕ
bit t x = cond (waits t x) 1 0

pub count_put : (threads : List Thread) (i : ℕ) (x : Thread) (t : ℕ) → i < length threads
    → waiting t (slice_set threads i x) + cond (is_at t (thread_at threads i).waits_for) 1 0 ≡ waiting t threads + cond (is_at t x.waits_for) 1 0
count_put threads i x t lt = sum_by-set (bit t) threads i x unstarted lt

-- where one waits it isn't nobody
pub some_wait : (threads : List Thread) (i t : ℕ) → i < length threads → (thread_at threads i).waits_for ≡ Some t → is_at t (Some t) ≡ true → 0 < waiting t threads
some_wait threads i t lt waits_is at =
    let one : ℕ = 1 in
    let none : ℕ = 0 in
    let same : cond (is_at t (thread_at threads i).waits_for) one none ≡ one = ap (λ w. cond (is_at t w) one none) waits_is ∙ ap (λ b. cond b one none) at in
    omega (arith, count_put threads i unstarted t lt, same)

still : (t : ℕ) (x : Thread) (b : Bool) → is_at t x.waits_for ≡ b → ◌≡◌ {A = ℕ} (cond b 1 0) 0 → woken t x ≡ x
still t x true f e = absurd (omega (arith, e))
still t x false f e = ap (λ b. if b then record x { waits_for = None } else x) f

-- where it is nobody, none is woken
pub none_wait : (t : ℕ) (threads : List Thread) → waiting t threads ≡ 0 → map (woken t) threads ≡ threads
none_wait t [] e = refl
none_wait t (x ∷ xs) e =
    let parts = sum_by-append (bit t) (x ∷ []) xs in
    ap (λ y. y ∷ map (woken t) xs) (still t x (is_at t x.waits_for) refl (omega (arith, e, parts)))
    ∙ ap (λ ys. x ∷ ys) (none_wait t xs (omega (arith, e, parts)))
