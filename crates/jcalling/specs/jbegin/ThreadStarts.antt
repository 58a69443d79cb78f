-- How a thread begins that was started (class documentation of Thread, Runnable): by a call of its Runnable's `run`.
use Rattle.std.specs.Prelude.{◌≡◌, ℕ, Bool, false}
use Rattle.jmemory.specs.jheap.Heaps.{Heaped}
use Rattle.jlib.specs.declared.calls.LibCall.TheVariants as calls
use Rattle.jlib.specs.declared.classes.LibClass.TheVariants as lib
use Rattle.jlib.specs.declared.classes.Thrown.{Thrown as ThrownClass}
use Rattle.jsemantics.specs.jmachine.MachineStates.{Outcome, State}
use Rattle.jsemantics.specs.jmachine.Security.{Rules}
use Rattle.jsemantics.specs.jmachine.MachineSteps.{step}
use Rattle.jruntime.specs.declared.jrun.came.Came.{Came}
use Rattle.jserving.specs.declared.jinvoke.faces.Target.{Target}
use Rattle.jserving.specs.jinvoke.InterfaceCalls.{FaceTarget}
use Rattle.jlibcalls.specs.jcontexts.RunnableStarts.{FailsFirst}
use Rattle.jstepping.specs.declared.jcore.machine.Machine.{Machine}
use Rattle.jstepping.specs.jcore.MachineOutcomes.{Comes, any}
use Rattle.jstepping.specs.jcore.MidStepMachines.{left_as}
use Rattle.jstepping.specs.jcore.MachineInvariants.{IsMachine, state_of, things_of}

-- what the machine's step comes to
abbrev pub step_of : {E : Type 0} → Machine E → Rules ℕ E → Outcome (State ℕ E)
step_of m r = step r m.calls m.plan.now (state_of m)

-- A call of `run` comes to this on the object that the running thread was given.
abbrev pub RunTarget : {E : Type 0} → Machine E → Target E → Type 0
RunTarget m t = FaceTarget m.calls m.fixed.marks.now m.heap lib.Runnable (calls.Run m.side) false m.guests.running.runnable t

-- The step came to this, if the call comes to that.
abbrev pub BeginsAs : {E : Type 0} → Machine E → Target E → Came → Machine E → Type 0
BeginsAs m t came n = RunTarget m t → Comes m any (step_of m) came n

-- An exception of a class was raised where the thread was to begin, if there was room for it.
pub record FailsIn {E : Type 0} (m : Machine E) (class : ThrownClass) (room : Bool) (n : Machine E) : Type 0 where
  pub heap : Heaped
  pub left : n ≡ left_as m.guests.running.frames heap (things_of m) m
  pub machine : IsMachine n
  pub row : FailsFirst E class m.heap room heap
