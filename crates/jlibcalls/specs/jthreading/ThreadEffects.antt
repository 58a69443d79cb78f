-- Which threads and which frames a call of Thread leaves.
use Rattle.std.specs.Prelude.{◌≡◌, ⊤, ℕ}
use Rattle.jruntime.specs.declared.jguests.guests.Guests.{Guests}
use Rattle.jruntime.specs.declared.jguests.turns.Turned.TheVariants as turns
use Rattle.jruntime.specs.jguests.GuestThreads.{HaveStayed, Lives}
use Rattle.jlibcalls.specs.declared.jthreading.switching.Threaded.{Threaded}
use Rattle.jlibcalls.specs.declared.jthreading.switching.Threaded.TheVariants as threaded
use Rattle.jlibcalls.specs.jthreading.ThreadFrames.{behind, without}

-- the threads as the one that called leaves them, before another has its turn
abbrev pub left_by : {E : Type 0} → ℕ → Threaded → Guests E → Guests E
left_by count threaded.Went g = behind count g
left_by count (threaded.Turned done) g = behind count g
left_by count (threaded.Raises class) g = without count g
left_by count threaded.Stuck g = g

-- Each thread with frames was one; the one that called is behind its call, or without its operands.
abbrev pub StayBehind : {E : Type 0} → ℕ → Threaded → Guests E → Guests E → Type 0
StayBehind count done g h = HaveStayed (left_by count done g) h

-- Where no other has had its turn, nothing has changed but the frames of the one that called.
abbrev pub StaysFramed : {E : Type 0} → ℕ → Threaded → Guests E → Guests E → Type 0
StaysFramed count threaded.Went g h = h ≡ behind count g
StaysFramed count (threaded.Turned done) g h = ⊤
StaysFramed count (threaded.Raises class) g h = h ≡ without count g
StaysFramed count threaded.Stuck g h = h ≡ g

-- The one that runs is runnable, and none waits for one that has ended, unless the run is over.
abbrev pub LivesOn : {E : Type 0} → Threaded → Guests E → Type 0
LivesOn threaded.Went h = Lives h
LivesOn (threaded.Turned turns.Goes) h = Lives h
LivesOn (threaded.Turned (turns.Ends end)) h = ⊤
LivesOn (threaded.Raises class) h = Lives h
LivesOn threaded.Stuck h = ⊤
