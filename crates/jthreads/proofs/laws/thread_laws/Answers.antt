use Rattle.std.proofs.Common.{◌≡◌, ◌<◌, length, true, arith, rules}
use Rattle.std.specs.Prelude.{slice_set, slice_get}
use Rattle.std.proofs.lemmas.List.{length-set, length-map}
use Rattle.std.proofs.lemmas.Option.{slice_get-map}
use Rattle.jthreads.specs.ThreadTables.{is_runnable, table_after_end, thread_at, woken}
use Rattle.jthreads.proofs.RunnableNumbers.{every, passing, rising, within}
use Rattle.jthreads.proofs.Waits.{from_woken, runs_again}
use Rattle.jthreads.proofs.laws.thread_laws.Goals as goal

pub returns-clause-rising : goal.returns-clause-rising
returns-clause-rising c threads = rising (λ i. is_runnable (thread_at threads i)) (length threads)

pub returns-clause-named : goal.returns-clause-named
returns-clause-named c threads t there = within (λ i. is_runnable (thread_at threads i)) (length threads) t there

pub returns-clause-only : goal.returns-clause-only
returns-clause-only c threads t there = passing (λ i. is_runnable (thread_at threads i)) (length threads) t there

pub returns-clause-every : goal.returns-clause-every
returns-clause-every c threads t lt runs = every (λ i. is_runnable (thread_at threads i)) t (length threads) lt runs

pub returns-clause-unstarted : goal.returns-clause-unstarted
returns-clause-unstarted c threads t e there =
    let runs : is_runnable (thread_at threads t) ≡ true = passing (λ i. is_runnable (thread_at threads i)) (length threads) t there in
    search rules

pub returns-clause-nobody : goal.returns-clause-nobody
returns-clause-nobody c threads t n x e w =
    let ended = slice_set threads t (record (thread_at threads t) { ended = true }) in
    from_woken t (slice_get ended n) x (rw (slice_get-map (woken t) ended n) at e) w

pub returns-clause-again : goal.returns-clause-again
returns-clause-again c threads t n h =
    let ended = slice_set threads t (record (thread_at threads t) { ended = true }) in
    let inside : n < length (table_after_end t threads) = omega (arith, h.0, length-map ended (woken t), length-set threads t (record (thread_at threads t) { ended = true })) in
    every (λ i. is_runnable (thread_at (table_after_end t threads) i)) n (length (table_after_end t threads)) inside (runs_again threads t n h.0 h.1 h.2 h.3)
