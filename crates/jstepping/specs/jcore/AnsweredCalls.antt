-- What a step asks of access control and is answered, and calls of the library.
use Rattle.std.specs.Prelude.{◌≡◌, ◌≤◌, ℕ, Option, Some, length, take}
use Rattle.jlib.specs.declared.calls.LibCall.{LibCall}
use Rattle.jsemantics.specs.jmachine.MachineStates.{Outcome, State}
use Rattle.jsemantics.specs.jmachine.AccessQueries.{Answer, Ask, answer_in, carried, run_asks}
use Rattle.jsemantics.specs.jmachine.MachineSteps.{site_of}
use Rattle.jsemantics.specs.jmachine.Security.{Rules}
use Rattle.jruntime.specs.declared.jrun.came.Came.{Came}
use Rattle.jruntime.specs.jguests.GuestThreads.{Lives}
use Rattle.jruntime.specs.jstate.FrameLists.{Framed, all}
use Rattle.jrows.specs.jcalls.FrameMarks.{Stand}
use Rattle.jstepping.specs.jstep.StepRelation.{asking}
use Rattle.jguard.specs.NumberMeanings.{AnswersFor, IsKnownIn}
use Rattle.jstepping.specs.declared.jcore.machine.Machine.{Machine}
use Rattle.jstepping.specs.jcore.MachineOutcomes.{Comes}
use Rattle.jstepping.specs.jcore.MachineInvariants.{IsMachine, classes_of, state_of, store_of}

-- ---- a call of the library

-- The running thread stands at a call of the library, whose operands are there.
pub record Calling {E : Type 0} (m : Machine E) (count : ℕ) : Type 0 where
  pub machine : IsMachine m
  pub lives : Lives m.guests
  pub frames : Framed E
  pub runs : m.guests.running.frames ≡ Some frames
  pub few : count ≤ length frames.newest.operands
  pub stand : Stand (classes_of m) (all frames)

-- what the step comes to
abbrev pub outcome_of : {E : Type 0} → Machine E → Framed E → LibCall → ℕ → Rules ℕ E → Outcome (State ℕ E)
outcome_of m f call count r = asking r m.calls m.plan.now (state_of m) f count call

-- what it asks
abbrev pub asked_of : {E : Type 0} → Machine E → Framed E → LibCall → ℕ → Option (Ask ℕ)
asked_of m f call count =
    run_asks m.side (site_of m.calls m.plan.now (state_of m) f.newest f.below) (store_of m) call (take count f.newest.operands)

-- ---- asks and answers

-- What is asked was given by whoever is asked.
abbrev pub AsksKnown : {M K E : Type 0} → (ℕ → Option K) → (M → Option E) → Machine M → Option (Ask ℕ) → Type 0
AsksKnown kept marks m asked = (ask : Ask ℕ) → asked ≡ Some ask → IsKnownIn kept marks (state_of m) ask

-- rules answer so what is asked, if anything is
abbrev pub AnswerSo : {M : Type 0} → Machine M → Option (Ask ℕ) → Answer ℕ M → Rules ℕ M → Type 0
AnswerSo m asked given r = (ask : Ask ℕ) → asked ≡ Some ask → answer_in r (state_of m) ask ≡ given

-- A step was answered what it asks, by what numbers and marks stood for before and behind it, and came to this by all rules that answer so.
pub record Answered {M K E : Type 0} (old new : ℕ → Option K) (old_marks new_marks : M → Option E) (rules : Rules K E) (m : Machine M)
    (asked : Option (Ask ℕ))
    (outcome : Rules ℕ M → Outcome (State ℕ M)) (came : Came) (n : Machine M) : Type 0 where
  pub given : Answer ℕ M
  pub answers : (ask : Ask ℕ) → asked ≡ Some ask → AnswersFor old new old_marks new_marks rules ask
      (carried (state_of m)) m.guests.running.inherited given
  pub comes : Comes m (AnswerSo m asked given) outcome came n
