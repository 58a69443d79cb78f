-- What raising an exception in the running thread comes to (JVMS 2.10).
use Rattle.std.specs.Prelude.{◌≡◌, ℕ, List, Some}
use Rattle.jmemory.specs.jheap.Heaps.{Heaped}
use Rattle.jlib.specs.declared.classes.LibClass.TheVariants as lib
use Rattle.jlib.specs.declared.classes.Thrown.{Thrown as ThrownClass}
use Rattle.joutput.specs.declared.jtrace.event.Event.{Event}
use Rattle.jresolution.specs.declared.jprogram.part.ClassRef.{ClassRef}
use Rattle.jresolution.specs.declared.jprogram.part.ClassRef.TheVariants as refs
use Rattle.jsemantics.specs.jmachine.MachineStates.{State}
use Rattle.jsemantics.specs.jmachine.Unwinding.{handler_at}
use Rattle.jruntime.specs.declared.jrun.came.Came.{Came}
use Rattle.jruntime.specs.jstate.FrameLists.{Framed, all}
use Rattle.jrows.specs.declared.jcalls.raising.Raised.{Raised}
use Rattle.jrows.specs.jcalls.Throws.{Raises, raising}
use Rattle.jstepping.specs.jstep.StepRelation.{type_of}
use Rattle.jstepping.specs.declared.jcore.machine.Machine.{Machine}
use Rattle.jstepping.specs.jcore.MachineOutcomes.{HandledStand, IsBehind, Leads}
use Rattle.jstepping.specs.jcore.MidStepMachines.{left_as}
use Rattle.jstepping.specs.jcore.MachineInvariants.{IsMachine, store_of, things_of}

-- A class of what can be thrown, as one.
abbrev pub thrown_ref : ThrownClass → ClassRef
thrown_ref class = refs.Lib (lib.Thrown class)

-- An exception of a class was raised in the frames of the running thread, and was handled or not.
pub record ThrowsIn {E : Type 0} (m : Machine E) (class : ThrownClass) (done : Raised) (n : Machine E) : Type 0 where
  pub frames : Framed E
  pub heap : Heaped
  pub left : n ≡ left_as (Some frames) heap (things_of m) m
  pub row : (f : Framed E) → m.guests.running.frames ≡ Some f
      → Raises m.fixed.marks.now (handler_at m.calls (type_of m.calls (thrown_ref class))) (lib.Thrown class) f m.heap done frames heap
  pub stand : HandledStand n done
  pub machine : IsMachine n

-- A step that comes to raising an exception of a class behind these events, where the running thread has the frames and the store that it has,
-- came to this.
abbrev pub RaisesIn : {E : Type 0} → Machine E → ThrownClass → List Event → Came → Machine E → Type 0
RaisesIn {E} m class told came n = (s : State ℕ E) (g : Framed E) → IsBehind m s → m.guests.running.frames ≡ Some g
    → Leads m (λ r outcome. (s.store ≡ store_of m) × (outcome ≡ raising r m.calls m.plan.now s (all g) told (lib.Thrown class))) came n
