-- What a table keeps beside its threads, so that nothing is sought when a thread ends or another gets its turn.
use Rattle.std.specs.Prelude.{◌≡◌, ◌<◌, ◌≤◌, ◌+◌, ◌-◌, ◌^◌, ℕ, List, [], ◌∷◌, length, get_or, cond, Bool, Some}
use Rattle.std.specs.List.{All, count_by, filter, range_with_len}
use Rattle.jthreads.specs.declared.queue.Queue.{Queue}
use Rattle.jthreads.specs.declared.thread.Thread.{Thread}
use Rattle.jthreads.specs.ThreadTables.{is_runnable, runnable_numbers, thread_at}
use Rattle.jthreads.specs.ProofNames.{is_at}

-- ---- who waits

-- a thread waits for thread t
abbrev pub waits : ℕ → Thread → Bool
waits t x = is_at t x.waits_for

-- how many threads wait for thread t
abbrev pub waiting : ℕ → List Thread → ℕ
waiting t threads = count_by (waits t) threads

abbrev pub nobody : Queue
nobody = record { waiting = 0; first = 0; next = 0 }

abbrev pub queue_at : List Queue → ℕ → Queue
queue_at queues t = get_or queues t nobody

-- who waits waits for a thread that is there
abbrev pub AreNamed : List Thread → Type 0
AreNamed threads = (t k : ℕ) → (thread_at threads t).waits_for ≡ Some k → k < length threads

-- of each thread is kept how many wait for it
abbrev pub AreCounted : List Thread → List Queue → Type 0
AreCounted threads queues = (length queues ≡ length threads) × ((t : ℕ) → t < length threads → (queue_at queues t).waiting ≡ waiting t threads)

-- ---- who can run

-- the runnable numbers below t, and those above it
abbrev pub before : List Thread → ℕ → List ℕ
before threads t = filter (λ i. is_runnable (thread_at threads i)) (range_with_len 0 t)

abbrev pub behind : List Thread → ℕ → List ℕ
behind threads t = filter (λ i. is_runnable (thread_at threads i)) (range_with_len (t + 1) (length threads - (t + 1)))

-- a number, or none
abbrev pub alone : Bool → ℕ → List ℕ
alone here t = cond here (t ∷ []) []

-- numbers below t, and numbers above it
abbrev pub IsBetween : List ℕ → ℕ → List ℕ → Type 0
IsBetween front t back = All (λ i. i < t) front × All (λ i. t < i) back

-- ---- the table

-- what is kept of a table's threads: of each who waits for it, and in order the numbers of those that can run, with room for the numbers of
-- all and one more
abbrev pub IsTable : List Thread → List Queue → List ℕ → ℕ → Type 0
IsTable threads queues order room =
    (length threads ≤ 2 ^ 32) × AreCounted threads queues × AreNamed threads × (order ≡ runnable_numbers threads) × (length threads < room)
