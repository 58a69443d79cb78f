-- How the library ran in the running thread.
use Rattle.std.specs.Prelude.{◌≡◌, ℕ, List, Some, take}
use Rattle.jperm.specs.declared.permission.Permission as perms
use Rattle.jvalues.specs.declared.jops.value.Value.{Value}
use Rattle.jmemory.specs.jheap.Heaps.{Heaped}
use Rattle.jlib.specs.declared.calls.LibCall.{LibCall}
use Rattle.jsemantics.specs.jmachine.CallTargets.{receiver}
use Rattle.jruntime.specs.jstate.FrameLists.{Framed}
use Rattle.jruntime.specs.jstate.HeapMeanings.{Things}
use Rattle.jrows.specs.jtexts.Messages.{MayBeTold}
use Rattle.jrows.specs.declared.jacts.way.Way.TheVariants as ways
use Rattle.jlibcalls.specs.declared.jlibrary.running.Done.{Done}
use Rattle.jlibcalls.specs.jlibrary.LibraryOutcomes.{IsTelling, Runs, Stays}
use Rattle.jstepping.specs.declared.jcore.machine.Machine.{Machine}
use Rattle.jstepping.specs.jcore.MidStepMachines.{left_as}
use Rattle.jstepping.specs.jcore.MachineInvariants.{IsMachine}

-- Where the call gives an object a message, the object may be told one.
abbrev pub MayTell : {E : Type 0} → Machine E → LibCall → (count : ℕ) → Type 0
MayTell {E} m call count = IsTelling call → (f : Framed E) → m.guests.running.frames ≡ Some f
    → (v : Value ℕ) → receiver (take count f.newest.operands) ≡ Some v → MayBeTold m.fixed.shapes.now m.heap v

-- with these permissions, and what is kept of contexts
abbrev pub things_with : {E : Type 0} → List perms.Permission → Machine E → Things
things_with permissions m = record { permissions = permissions; kept = m.kept }

-- A call with so many operands of the running thread's newest frame came to this, and has left these frames, this heap and these permissions.
pub record RanIn {E : Type 0} (m : Machine E) (call : LibCall) (count : ℕ) (done : Done) (n : Machine E) : Type 0 where
  pub frames : Framed E
  pub heap : Heaped
  pub permissions : List perms.Permission
  pub left : n ≡ left_as (Some frames) heap (things_with permissions m) m
  pub row : (f : Framed E) → m.guests.running.frames ≡ Some f
      → Runs m.fixed.shapes.now m.plan.now.cwd m.guests.at call count f.newest m.permissions m.heap done frames.newest permissions heap
  pub stays : (f : Framed E) → m.guests.running.frames ≡ Some f → Stays done.way f.newest frames.newest
  pub below : (f : Framed E) → m.guests.running.frames ≡ Some f → frames.below ≡ f.below
  pub machine : (done.way ≡ ways.Stuck → ⊥) → IsMachine n
