-- What a step of a machine by numbers came to.
use Rattle.std.specs.Prelude.{◌≡◌, ⊤, ℕ, Bool, List, Some}
use Rattle.jresolution.specs.declared.jprogram.part.ClassRef.{ClassRef}
use Rattle.joutput.specs.declared.jtrace.event.Event.{Event}
use Rattle.jsemantics.specs.jmachine.MachineStates.{NoStep, Outcome, Over, State, Went}
use Rattle.jsemantics.specs.jmachine.Security.{Rules}
use Rattle.jsemantics.specs.jmachine.ThreadTurns.{ended, with_running}
use Rattle.jruntime.specs.declared.jrun.came.Came.{Came}
use Rattle.jruntime.specs.declared.jrun.came.Came.TheVariants as done
use Rattle.jruntime.specs.jstate.FrameLists.{Framed}
use Rattle.jrows.specs.declared.jcalls.raising.Raised.{Raised}
use Rattle.jrows.specs.declared.jcalls.raising.Raised.TheVariants as raised
use Rattle.jrows.specs.jcalls.FrameMarks.{AreStanding}
use Rattle.jrows.specs.jcalls.Throws.{RaisedAs}
use Rattle.jruntime.specs.jguests.GuestThreads.{frames_of}
use Rattle.jstepping.specs.declared.jstep.outcomes.Stepped as stepping
use Rattle.jstepping.specs.declared.jstep.outcomes.Stepped.TheVariants as steps
use Rattle.jstepping.specs.jstep.StepRelation.{SteppedAs, StoodAs, type_of}
use Rattle.jstepping.specs.declared.jcore.machine.Machine.{Machine}
use Rattle.jstepping.specs.jcore.MachineInvariants.{AreRules, IsReady, classes_of, state_of, store_of}

-- ---- outcomes

-- The machine that is left stands for the state behind a step that went on; a run that is over has left this state.
abbrev pub outcome_by : {E : Type 0} → State ℕ E → Machine E → Came → Outcome (State ℕ E)
outcome_by over n (done.Went events) = Went (state_of n) events
outcome_by over n (done.Ended events end) = Over over events end
outcome_by over n done.Stuck = NoStep

-- A step came to this by all rules that are like these.
pub record Comes {E : Type 0} (m : Machine E) (like : Rules ℕ E → Type 0) (outcome : Rules ℕ E → Outcome (State ℕ E)) (came : Came)
    (n : Machine E) : Type 0 where
  pub over : State ℕ E
  pub comes : (r : Rules ℕ E) → AreRules m r → like r → outcome r ≡ outcome_by over n came

-- all rules
abbrev pub any : {E : Type 0} → Rules ℕ E → Type 0
any r = ⊤

-- Where the run goes on, the machine is ready for a next step.
abbrev pub GoesOn : {E : Type 0} → Machine E → Came → Type 0
GoesOn n (done.Went events) = IsReady n
GoesOn n came = ⊤

-- A step whose outcome is such as this says came to this, by all rules.
pub record Leads {E : Type 0} (m : Machine E) (such : Rules ℕ E → Outcome (State ℕ E) → Type 0) (came : Came) (n : Machine E) : Type 0 where
  pub over : State ℕ E
  pub comes : (r : Rules ℕ E) (outcome : Outcome (State ℕ E)) → AreRules m r → such r outcome → outcome ≡ outcome_by over n came

-- ---- within a step

-- The machine stands for a state but for the frames of its running thread, and for its store.
abbrev pub IsBehind : {E : Type 0} → Machine E → State ℕ E → Type 0
IsBehind m s = state_of m ≡ with_running s (frames_of m.guests.running.frames) (store_of m)

-- The thread ended so, and another took its turn.
abbrev pub EndsThread : {E : Type 0} → Machine E → (failed : Bool) → List Event → Came → Machine E → Type 0
EndsThread {E} m failed told came n = (s : State ℕ E) → IsBehind m s
    → ended m.plan.now.schedule s (store_of m) failed told ≡ outcome_by (state_of n) n came

-- What was raised or thrown behind these events, an object of a class, by which the running thread has the frames and the store that it has.
abbrev pub SettlesRaised : {E : Type 0} → Machine E → Raised → ClassRef → List Event → Came → Machine E → Type 0
SettlesRaised {E} m way class told came n = (s : State ℕ E) (g : Framed E) → IsBehind m s → m.guests.running.frames ≡ Some g
    → Leads m (λ r outcome. RaisedAs r m.calls m.plan.now s told (type_of m.calls class) (store_of m) way g outcome) came n

-- What a step of its running thread came to.
abbrev pub Settles : {E : Type 0} → Machine E → stepping.Stepped → Came → Machine E → Type 0
Settles {E} m way came n = (s : State ℕ E) (g : Framed E) → IsBehind m s → m.guests.running.frames ≡ Some g
    → Leads m (λ r outcome. SteppedAs r m.calls m.plan.now s way g (store_of m) outcome) came n

-- ---- which frames are left

-- Frames in which what was raised is handled stand between steps.
abbrev pub HandledStand : {E : Type 0} → Machine E → Raised → Type 0
HandledStand {E} m raised.Handled = (g : Framed E) → m.guests.running.frames ≡ Some g → AreStanding (classes_of m) g
HandledStand m way = ⊤

abbrev pub LeftStand : {E : Type 0} → Machine E → stepping.Stepped → Type 0
LeftStand {E} m way = (g : Framed E) → m.guests.running.frames ≡ Some g → StoodAs (classes_of m) way g

-- the library needn't be asked
abbrev pub IsOwn : stepping.Stepped → Type 0
IsOwn (steps.Asks call count) = ⊥
IsOwn way = ⊤
