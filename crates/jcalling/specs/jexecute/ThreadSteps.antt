-- One step of the running thread of a machine by numbers, but for what the library does.
use Rattle.std.specs.Prelude.{◌≡◌, ⊤, ℕ, List, None, Some, take}
use Rattle.jmemory.specs.jheap.Heaps.{Heaped}
use Rattle.jlib.specs.declared.calls.LibCall.{LibCall}
use Rattle.jvalues.specs.declared.jops.value.Value.{Value}
use Rattle.jresolution.specs.juses.IndexedInstructions.{instruction_at}
use Rattle.jsemantics.specs.jmachine.AccessQueries.{asks}
use Rattle.jsemantics.specs.jmachine.CallTargets.{receiver}
use Rattle.jsemantics.specs.jmachine.Security.{Rules}
use Rattle.jsemantics.specs.jmachine.MachineSteps.{step}
use Rattle.jruntime.specs.declared.jrun.came.Came.{Came}
use Rattle.jruntime.specs.declared.jrun.came.Came.TheVariants as done
use Rattle.jruntime.specs.declared.jstate.shapes.Shapes.{Shapes}
use Rattle.jruntime.specs.jstate.FrameLists.{Framed}
use Rattle.jrows.specs.jtexts.Messages.{MayBeTold}
use Rattle.jlibcalls.specs.jconstants.StringConstants.{Made}
use Rattle.jruntime.specs.jguests.GuestThreads.{with_frames}
use Rattle.jlibcalls.specs.jlibrary.LibraryOutcomes.{IsTelling}
use Rattle.jstepping.specs.declared.jstep.outcomes.Stepped as stepping
use Rattle.jstepping.specs.declared.jstep.outcomes.Stepped.TheVariants as steps
use Rattle.jstepping.specs.jstep.StepRelation as stepped
use Rattle.jstepping.specs.jstep.StepRelation.{StoodAs}
use Rattle.jstepping.specs.declared.jcore.machine.Machine.{Machine}
use Rattle.jstepping.specs.jcore.AnsweredCalls.{Calling, asked_of, outcome_of}
use Rattle.jstepping.specs.jcore.MachineOutcomes.{Comes, GoesOn, Settles, any}
use Rattle.jstepping.specs.jcore.MachineInvariants.{AreRules, IsMachine, classes_of, state_of, store_of}
use Rattle.jcalling.specs.declared.jexecute.executing.Executed.{Executed}
use Rattle.jcalling.specs.declared.jexecute.executing.Executed.TheVariants as executed

-- ---- what has to be

-- The running thread has frames.
pub record HasFrames {E : Type 0} (m : Machine E) : Type 0 where
  pub frames : Framed E
  pub runs : m.guests.running.frames ≡ Some frames

-- What frames carry of the methods of each class is what some rules give to them.
pub record HasRules {E : Type 0} (m : Machine E) : Type 0 where
  pub rules : Rules ℕ E
  pub are : AreRules m rules

-- ---- within a step

-- What holds of a machine wherever there was a step.
abbrev pub StaysMachine : {E : Type 0} → stepping.Stepped → Machine E → Type 0
StaysMachine steps.Stuck n = ⊤
StaysMachine came n = IsMachine n

-- the machine with other frames of its running thread, another heap and other string constants
abbrev pub moved : {E : Type 0} → Machine E → Framed E → Heaped → Made → Machine E
moved m g h made = record {
  fixed = m.fixed;
  plan = m.plan;
  side = m.side;
  guests = with_frames (Some g) m.guests;
  heap = h;
  constants = made;
  permissions = m.permissions;
  kept = m.kept;
  calls = m.calls;
}

-- The running thread's frames made a step, which came to this: nothing else has changed.
pub record Moves {E : Type 0} (m : Machine E) (came : stepping.Stepped) (n : Machine E) : Type 0 where
  pub before : Framed E
  pub runs : m.guests.running.frames ≡ Some before
  pub after : Framed E
  pub heap : Heaped
  pub constants : Made
  pub is : n ≡ moved m after heap constants
  pub comes : (r : Rules ℕ E) → AreRules m r → stepped.CameTo r m.calls m.plan.now (state_of m) before came after
      (store_of (moved m after heap constants))
      (step r m.calls m.plan.now (state_of m)) (asks m.side m.calls m.plan.now (state_of m))
      (instruction_at m.calls before.newest.method before.newest.place)
  pub stands : StoodAs (classes_of m) came after
  pub machine : StaysMachine came (moved m after heap constants)

-- What is left of a step behind the frames was done,
abbrev pub Ends : {E : Type 0} → Machine E → stepping.Stepped → Executed → Machine E → Type 0
Ends m came e n = (end : Came) × (e ≡ executed.Done end) × Settles m came end n × GoesOn n end

-- where it is the library that is to be asked, or there is no step, nothing.
abbrev pub Finishes : {E : Type 0} → Machine E → stepping.Stepped → Executed → Machine E → Type 0
Finishes m (steps.Asks call count) e n = (e ≡ executed.Asks call count) × (n ≡ m)
Finishes m steps.Stuck e n = e ≡ executed.Done done.Stuck
Finishes m came e n = Ends m came e n

-- ---- a step

-- The step came to this, and asks nothing of access control.
pub record CameTo {E : Type 0} (m : Machine E) (came : Came) (n : Machine E) : Type 0 where
  pub comes : Comes m any (λ r. step r m.calls m.plan.now (state_of m)) came n
  pub ready : GoesOn n came
  pub silent : asks m.side m.calls m.plan.now (state_of m) ≡ None

-- Where a member of the library gives an object a message, the object may be told one.
abbrev pub Tells : Shapes → List (Value ℕ) → Heaped → LibCall → (count : ℕ) → Type 0
Tells shapes operands h call count = IsTelling call → (v : Value ℕ) → receiver (take count operands) ≡ Some v → MayBeTold shapes h v

-- The thread stands at a call of the library, which is the step, and nothing has changed.
pub record StandsAt {E : Type 0} (m : Machine E) (call : LibCall) (count : ℕ) (n : Machine E) : Type 0 where
  pub calling : Calling n count
  pub same : state_of n ≡ state_of m
  pub comes : (r : Rules ℕ E) → AreRules m r → step r m.calls m.plan.now (state_of m) ≡ outcome_of n calling.frames call count r
  pub asked : asks m.side m.calls m.plan.now (state_of m) ≡ asked_of n calling.frames call count
  pub tells : Tells n.fixed.shapes.now calling.frames.newest.operands n.heap call count

abbrev pub Executes : {E : Type 0} → Machine E → Executed → Machine E → Type 0
Executes m (executed.Done came) n = CameTo m came n
Executes m (executed.Asks call count) n = StandsAt m call count n
