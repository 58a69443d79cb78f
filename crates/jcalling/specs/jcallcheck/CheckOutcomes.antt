-- What a step comes to whose call checks a permission, in a machine by numbers.
use Rattle.std.specs.Prelude.{◌≡◌, ℕ, List, [], take, Option, Some}
use Rattle.jperm.specs.declared.permission.Permission as perms
use Rattle.jdomain.specs.declared.verdict.Verdict.{Verdict}
use Rattle.jdomain.specs.declared.verdict.Verdict.TheVariants as verdicts
use Rattle.jmemory.specs.jheap.Heaps.{Heaped}
use Rattle.jlib.specs.declared.classes.LibClass.TheVariants as lib
use Rattle.jlib.specs.declared.classes.Thrown.TheVariants as thrown
use Rattle.jvalues.specs.declared.jops.value.Value.{Value}
use Rattle.jresolution.specs.declared.jprogram.part.ClassRef.{ClassRef}
use Rattle.jresolution.specs.declared.jprogram.part.ClassRef.TheVariants as refs
use Rattle.joutput.specs.declared.jtrace.event.Event.{Event}
use Rattle.joutput.specs.declared.jtrace.event.Event.TheVariants.{Deny, Grant}
use Rattle.jsemantics.specs.jmachine.MachineStates.{Row, State, null}
use Rattle.jsemantics.specs.jmachine.Security.{Rules, judged}
use Rattle.jsemantics.specs.jmachine.ThreadTurns.{thread_of}
use Rattle.jruntime.specs.declared.jrun.came.Came.{Came}
use Rattle.jruntime.specs.jstate.FrameLists.{Framed}
use Rattle.jrows.specs.declared.jcalls.raising.Raised.{Raised}
use Rattle.jrows.specs.jcalls.MethodCalls.{stepped}
use Rattle.jrows.specs.jcalls.FrameMarks.{AreStanding}
use Rattle.jrows.specs.jcalls.Throws.{RaisedAs}
use Rattle.jruntime.specs.jguests.GuestThreads.{Lives, with_frames}
use Rattle.jlibcalls.specs.declared.jchecks.judging.Judged.{Judged}
use Rattle.jlibcalls.specs.jchecks.PermissionVerdicts.{JudgedAs}
use Rattle.jstepping.specs.jstep.StepRelation.{type_of}
use Rattle.jstepping.specs.declared.jcore.machine.Machine.{Machine}
use Rattle.jstepping.specs.jcore.MachineOutcomes.{outcome_by}
use Rattle.jstepping.specs.jcore.MachineInvariants.{AreRules, IsMachine, classes_of, state_of, store_of}

-- what is told of a verdict
abbrev pub event_by : ℕ → perms.Permission → Verdict → Event
event_by thread asked verdicts.Granted = Grant thread asked
event_by thread asked (verdicts.Denied domain) = Deny thread asked domain

-- A step comes to this by any rules whose row does this with so many operands of the running thread's newest frame.
abbrev pub ComesBy : {E : Type 0} → Machine E → (count : ℕ) → Option (Row ℕ E) → Came → Machine E → Type 0
ComesBy {E} m count does came n = (f : Framed E) → m.guests.running.frames ≡ Some f
    → (over : State ℕ E) × ((r : Rules ℕ E) (row : List (Value ℕ) → Option (Row ℕ E)) → AreRules m r → row (take count f.newest.operands) ≡ does
    → stepped r m.calls m.plan.now (state_of m) f count row ≡ outcome_by over n came)

-- ---- within a step

-- the class of what a check of null raises, and of what a denied check does
abbrev pub null_class : ClassRef
null_class = refs.Lib (lib.Thrown thrown.NullPointerException)

abbrev pub denied_class : ClassRef
denied_class = refs.Lib lib.AccessControlException

-- with other frames of the running thread, and another heap
abbrev pub with_run : {E : Type 0} → Framed E → Heaped → Machine E → Machine E
with_run g k m = record m { guests = with_frames (Some g) m.guests; heap = k }

-- Nothing else has changed, and the frames may go on.
pub record Changed {E : Type 0} (m n : Machine E) : Type 0 where
  pub frames : Framed E
  pub heap : Heaped
  pub is : n ≡ with_run frames heap m
  pub standing : AreStanding (classes_of m) frames
  pub machine : IsMachine n
  pub lives : Lives n.guests

-- A verdict was done to the running thread, whose call has so many operands, and these frames and this heap were left: by rules whose row does
-- what the verdict says the step comes to that.
abbrev pub Judges : {E : Type 0} → Machine E → perms.Permission → Verdict → (count : ℕ) → Judged → Framed E → Heaped → Type 0
Judges {E} m asked verdict count way g k = (f : Framed E) (r : Rules ℕ E) (row : List (Value ℕ) → Option (Row ℕ E))
    → m.guests.running.frames ≡ Some f → AreRules m r
    → row (take count f.newest.operands) ≡ Some (judged (store_of m) (thread_of (state_of m)) asked verdict)
    → JudgedAs r m.calls m.plan.now (state_of m) asked verdict way g (store_of (with_run g k m))
    (stepped r m.calls m.plan.now (state_of m) f count row)

-- So was a NullPointerException raised.
abbrev pub RaisesNull : {E : Type 0} → Machine E → (count : ℕ) → Raised → Framed E → Heaped → Type 0
RaisesNull {E} m count way g k = (f : Framed E) (r : Rules ℕ E) (row : List (Value ℕ) → Option (Row ℕ E)) → m.guests.running.frames ≡ Some f
    → AreRules m r
    → row (take count f.newest.operands) ≡ Some null
    → RaisedAs r m.calls m.plan.now (state_of m) [] (type_of m.calls null_class) (store_of (with_run g k m)) way g
    (stepped r m.calls m.plan.now (state_of m) f count row)

-- The machine was changed so.
pub record JudgedOn {E : Type 0} (m : Machine E) (asked : perms.Permission) (verdict : Verdict) (count : ℕ) (way : Judged)
    (n : Machine E) : Type 0 where
  pub change : Changed m n
  pub judges : Judges m asked verdict count way change.frames change.heap

pub record NullRaisedOn {E : Type 0} (m : Machine E) (count : ℕ) (way : Raised) (n : Machine E) : Type 0 where
  pub change : Changed m n
  pub raises : RaisesNull m count way change.frames change.heap
