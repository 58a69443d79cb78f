-- Threads: which one takes its turn, and how one ends.
use Rattle.std.specs.Prelude.{ℕ, ◌+◌, Bool, List, [], ◌∷◌, ◌++◌, length, take, drop, Option, Some, None, slice_get, if◌then◌else◌}
use Rattle.std.specs.List.{list_any}
use Rattle.jthreads.specs.Schedule.{picked}
use Rattle.jthreads.specs.ThreadTables.{added, have_ended, runnable_numbers, table_after_end}
use Rattle.jthreads.specs.declared.thread.Thread.{Thread}
use Rattle.joutput.specs.declared.jtrace.event.Event.{Event}
use Rattle.joutput.specs.declared.jtrace.event.End.{End}
use Rattle.joutput.specs.declared.jtrace.event.End.TheVariants.{Finished, Uncaught, Deadlock}
use Rattle.jsemantics.specs.jmachine.MachineStates.{FrameOf, GuestOf, State, Outcome, Went, Over, NoStep}
use Rattle.jsemantics.specs.jmachine.Store.{Store}

-- ---- states

-- the number of the running thread
abbrev pub thread_of : {K E : Type 0} → State K E → ℕ
thread_of s = length s.earlier

-- all threads, in the order of their numbers
abbrev pub guests : {K E : Type 0} → State K E → List (GuestOf K E)
guests s = s.earlier ++ s.running ∷ s.later

abbrev pub with_running : {K E : Type 0} → State K E → List (FrameOf K E) → Store K → State K E
with_running s frames store = record s { running = record s.running { frames = frames }; store = store }

abbrev pub with_table : {K E : Type 0} → State K E → List Thread → State K E
with_table s table = record s { table = table }

-- the running thread has ended
abbrev pub with_ended : {K E : Type 0} → State K E → Store K → Bool → State K E
with_ended s store failed =
    record s { running = record s.running { frames = []; failed = failed }; table = table_after_end (thread_of s) s.table; store = store }

-- there is one more thread, which isn't started
abbrev pub with_guest : {K E : Type 0} → State K E → GuestOf K E → State K E
with_guest s g = record s { later = s.later ++ g ∷ []; table = added s.table }

-- ---- turns

-- the thread of a number runs from now on, by one more number of the schedule
abbrev pub run_by : {K E : Type 0} → State K E → ℕ → GuestOf K E → State K E
run_by s t g = record s { earlier = take t (guests s); running = g; later = drop (t + 1) (guests s); turns = s.turns + 1 }

abbrev pub given_to : {K E : Type 0} → State K E → List Event → ℕ → Option (GuestOf K E) → Outcome (State K E)
given_to s events t x = elim x [ None ↦ NoStep | Some g ↦ Went (run_by s t g) events ]

-- how a run ends in which no thread can run
abbrev pub end_of : {K E : Type 0} → State K E → End
end_of s = if have_ended s.table then (if list_any (λ g. g.failed) (guests s) then Uncaught else Finished) else Deadlock

abbrev pub turn_of : {K E : Type 0} → State K E → List Event → Option ℕ → Outcome (State K E)
turn_of s events x = elim x [ None ↦ Over s events (end_of s) | Some t ↦ given_to s events t (slice_get (guests s) t) ]

-- The thread that the schedule picks among those that can run takes its turn; where none can, the run ends and no number is taken.
unfoldable pub turned : {K E : Type 0} → List ℕ → State K E → List Event → Outcome (State K E)
turned schedule s events = turn_of s events (picked schedule s.turns (runnable_numbers s.table))

-- the running thread ends, by an exception or not
abbrev pub ended : {K E : Type 0} → List ℕ → State K E → Store K → Bool → List Event → Outcome (State K E)
ended schedule s store failed events = turned schedule (with_ended s store failed) events
