-- The table of guest threads: a list of threads by their numbers, and the table after each call.
use Rattle.std.specs.Prelude.{◌≡◌, ◌≢◌, ◌<◌, ℕ, Bool, true, false, not, ◌&&◌, ◌||◌, ◌==◌, if◌then◌else◌, List, [], ◌∷◌, ◌++◌, map, length, Some, None, slice_index_or, slice_set}
use Rattle.std.specs.Option.{is_none}
use Rattle.std.specs.List.{filter, list_all, range_with_len}
use Rattle.jthreads.specs.declared.thread.Thread.{Thread}
use Rattle.jthreads.specs.declared.table.Joined.{Joined}
use Rattle.jthreads.specs.declared.table.Joined.TheVariants.{AtOnce, Waits}

-- ---- one thread

-- a thread that was made and isn't started
abbrev pub unstarted : Thread
unstarted = record { started = false; ended = false; waits_for = None }

-- it was started and has not ended
abbrev pub is_alive : Thread → Bool
is_alive x = x.started && not x.ended

-- it was started, has not ended and does not wait
abbrev pub is_runnable : Thread → Bool
is_runnable x = is_alive x && is_none x.waits_for

-- a thread that waits for t waits no longer
abbrev pub woken : ℕ → Thread → Thread
woken t x = if elim x.waits_for [ None ↦ false | Some other ↦ other == t ] then record x { waits_for = None } else x

-- ---- the table

-- the thread with a number
abbrev pub thread_at : List Thread → ℕ → Thread
thread_at threads t = slice_index_or threads t unstarted

abbrev pub is_started : List Thread → ℕ → Bool
is_started threads t = (thread_at threads t).started

abbrev pub lives_at : List Thread → ℕ → Bool
lives_at threads t = is_alive (thread_at threads t)

-- the numbers of the runnable threads, in rising order
abbrev pub runnable_numbers : List Thread → List ℕ
runnable_numbers threads = filter (λ t. is_runnable (thread_at threads t)) (range_with_len 0 (length threads))

-- whether each started thread has ended
abbrev pub have_ended : List Thread → Bool
have_ended threads = list_all (λ x. not x.started || x.ended) threads

-- ---- the table after each call

-- thread 0, started
abbrev pub opened : List Thread
opened = (record unstarted { started = true }) ∷ []

-- a thread that isn't started, behind the others
abbrev pub added : List Thread → List Thread
added threads = threads ++ unstarted ∷ []

-- thread t is started
abbrev pub table_after_start : ℕ → List Thread → List Thread
table_after_start t threads = slice_set threads t (record (thread_at threads t) { started = true })

abbrev pub join_answer : ℕ → List Thread → Joined
join_answer t threads = if lives_at threads t then Waits else AtOnce

-- thread `me` waits for thread t where that was started and has not ended; else nothing changes
abbrev pub joined : ℕ → ℕ → List Thread → List Thread
joined me t threads = if lives_at threads t then slice_set threads me (record (thread_at threads me) { waits_for = Some t }) else threads

-- thread t has ended, and nobody waits for it
abbrev pub table_after_end : ℕ → List Thread → List Thread
table_after_end t threads = map (woken t) (slice_set threads t (record (thread_at threads t) { ended = true }))

-- thread n isn't t, was started, has not ended, and waits for thread t
abbrev pub Awaits : List Thread → ℕ → ℕ → Type 0
Awaits threads t n = (n < length threads) × (n ≢ t) × (lives_at threads n ≡ true) × ((thread_at threads n).waits_for ≡ Some t)
