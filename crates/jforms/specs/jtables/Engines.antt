-- An engine: a machine by numbers, and a guard whose numbers stand for what is kept.
use Rattle.std.specs.Prelude.{◌≡◌, ℕ, Option}
use Rattle.jresolution.specs.jprogram.ProgramClasses.{Program}
use Rattle.jsemantics.specs.jmachine.MachineStates.{Outcome, State}
use Rattle.jsemantics.specs.jmachine.AccessQueries.{Ask, asks}
use Rattle.jsemantics.specs.jmachine.Security.{Rules}
use Rattle.jsemantics.specs.jmachine.MachineSteps.{step}
use Rattle.jrows.specs.jcalls.FrameMarks.{marks_of}
use Rattle.jguard.specs.GuardLaws.{MarksStand}
use Rattle.jguard.specs.NumberMeanings.{StandsFor}
use Rattle.jstepping.specs.declared.jcore.machine.Machine.{Machine}
use Rattle.jstepping.specs.jcore.MachineInvariants.{IsReady, state_of}
use Rattle.jsoundness_laws.specs.library.YieldLaws.{AreSided}
use Rattle.jsoundness_laws.specs.progress.SoundPrograms.{IsSound}
use Rattle.jsoundness_laws.specs.progress.TypedStates.{IsTypedState}

-- By rules a program has no run that is stuck: it links and is well typed, it is on their side, and they hand contexts over by it.
pub record IsSafe {K E : Type 0} (rules : Rules K E) (p : Program) : Type 0 where
  pub sound : IsSound p
  pub side : rules.side ≡ p.side
  pub sided : AreSided rules

-- What holds between steps, by what numbers and marks stand for.
pub record IsEngine {M K E : Type 0} (kept : ℕ → Option K) (entry : M → Option E) (mark : ℕ → M) (rules : Rules K E) (m : Machine M) : Type 0 where
  pub ready : IsReady m
  pub side : m.side ≡ rules.side
  -- frames of the methods of each class carry the mark of its domain
  pub carry : m.fixed.marks.now ≡ marks_of mark m.calls
  pub marks : MarksStand entry mark rules
  pub safe : IsSafe rules m.calls
  -- there is a typed state for which its own stands
  pub stands : (s : State K E) × StandsFor kept entry (state_of m) s
  pub typed : IsTypedState m.calls rules.side stands.0

-- what its next step asks
abbrev pub asks_next : {M : Type 0} → Machine M → Option (Ask ℕ)
asks_next m = asks m.side m.calls m.plan.now (state_of m)

-- what that comes to
abbrev pub next_of : {M : Type 0} → Machine M → Rules ℕ M → Outcome (State ℕ M)
next_of m r = step r m.calls m.plan.now (state_of m)
