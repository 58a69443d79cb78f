-- Where the run of an engine is, by what its guard's numbers and marks stand for.
use Rattle.std.specs.Prelude.{⊤, ℕ, Bool, true, false, Option, Some, None}
use Rattle.joutput.specs.declared.jtrace.event.End.{End}
use Rattle.joutput.specs.declared.jtrace.event.End.TheVariants as ends
use Rattle.jsemantics.specs.jmachine.MachineStates.{NoStep, Outcome, State}
use Rattle.jsemantics.specs.jmachine.AccessQueries.{Ask}
use Rattle.jsemantics.specs.jmachine.Security.{Rules}
use Rattle.jsemantics.specs.jmachine.MachineSteps.{step}
use Rattle.jsemantics.specs.jmachine.ThreadTurns.{thread_of}
use Rattle.jruntime.specs.jguests.GuestThreads.{IsLive}
use Rattle.jguard.specs.NumberMeanings.{StandsFor}
use Rattle.jruntime.specs.declared.jrun.stepping.Stepped.{Stepped}
use Rattle.jruntime.specs.declared.jrun.stepping.Stepped.TheVariants as done
use Rattle.jstepping.specs.declared.jcore.machine.Machine.{Machine}
use Rattle.jstepping.specs.jcore.MachineInvariants.{state_of}
use Rattle.jforms.specs.declared.jtables.course.Course.{Course}
use Rattle.jforms.specs.declared.jtables.course.Course.TheVariants as course
use Rattle.jforms.specs.jtables.Engines.{IsEngine, asks_next}

-- the end of a run, if it has ended
abbrev pub end_of : {M : Type 0} → Course M → Option End
end_of (course.Runs m) = None
end_of (course.Ended end) = Some end
end_of course.Lost = None

-- whether a step found no memory
abbrev pub is_lost : {M : Type 0} → Course M → Bool
is_lost (course.Runs m) = false
is_lost (course.Ended end) = false
is_lost course.Lost = true

-- a run that goes on
abbrev pub Runs : {M : Type 0} → Course M → Type 0
Runs (course.Runs m) = ⊤
Runs (course.Ended end) = ⊥
Runs course.Lost = ⊥

-- the states for which it stands
abbrev pub Stands : {M K E : Type 0} → (ℕ → Option K) → (M → Option E) → Course M → State K E → Type 0
Stands kept entry (course.Runs m) s = StandsFor kept entry (state_of m) s
Stands kept entry (course.Ended end) s = ⊥
Stands kept entry course.Lost s = ⊥

-- what a step of it comes to
abbrev pub steps : {M K E : Type 0} → Rules K E → Course M → State K E → Outcome (State K E)
steps rules (course.Runs m) = step rules m.calls m.plan.now
steps rules (course.Ended end) = λ s. NoStep
steps rules course.Lost = λ s. NoStep

-- what its next step asks
abbrev pub asks_of : {M : Type 0} → Course M → Option (Ask ℕ)
asks_of (course.Runs m) = asks_next m
asks_of (course.Ended end) = None
asks_of course.Lost = None

-- what contracts see of an engine: its guard, and where its run is
pub record Coursed (G M : Type 0) : Type 0 where
  pub guard : G
  pub course : Course M

-- What holds of it between steps: where it goes on, the machine and its guard are such as can be run.
abbrev pub Holds : {M K E : Type 0} → (ℕ → Option K) → (M → Option E) → (ℕ → M) → Rules K E → Course M → Type 0
Holds kept entry mark rules (course.Runs m) = IsEngine kept entry mark rules m
Holds kept entry mark rules (course.Ended end) = ⊤
Holds kept entry mark rules course.Lost = ⊤

-- In each state for which it stands the running thread is runnable, and no thread waits for one that has ended.
abbrev pub AreLive : {M K E : Type 0} → (ℕ → Option K) → (M → Option E) → Course M → Type 0
AreLive {M} {K} {E} kept entry c = (s : State K E) → Stands kept entry c s → IsLive s.table (thread_of s)

-- ---- how it begins and goes on

-- where there is no machine, the heap had too few cells
abbrev pub course_of : {M : Type 0} → Option (Machine M) → Course M
course_of None = course.Ended ends.HeapFull
course_of (Some m) = course.Runs m

-- the end that a step was, if it was one
abbrev pub end_in : Stepped → Option End
end_in (done.Went events) = None
end_in (done.Ended events end) = Some end

-- where it leaves a run
abbrev pub left_by : {M : Type 0} → Course M → Stepped → Course M
left_by c (done.Went events) = c
left_by c (done.Ended events end) = course.Ended end
