-- A machine in the midst of a step, when its running thread has other frames, and it another heap, permissions and kept numbers.
use Rattle.std.specs.Prelude.{◌≡◌, ℕ, Option, Some}
use Rattle.jmemory.specs.jheap.Heaps.{Heaped}
use Rattle.jlib.specs.declared.classes.Thrown.{Thrown as ThrownClass}
use Rattle.jsemantics.specs.jmachine.MachineStates.{State}
use Rattle.jsemantics.specs.jmachine.ThreadTurns.{thread_of}
use Rattle.jruntime.specs.jstate.ObjectCells.{AreCelled, StayCelled}
use Rattle.jruntime.specs.jstate.FrameLists.{Framed, all}
use Rattle.jruntime.specs.jstate.HeapMeanings.{AreBuilt, Things}
use Rattle.jrows.specs.jcalls.FrameMarks.{Stand}
use Rattle.jrows.specs.jcalls.Throws.{RaisedHeap}
use Rattle.jruntime.specs.jguests.GuestThreads.{with_frames}
use Rattle.jlibcalls.specs.jlibrary.HeldPermissions.{AreHeld}
use Rattle.jlibcalls.specs.jcontexts.KeptContexts.{AreKept}
use Rattle.jstepping.specs.declared.jcore.machine.Machine.{Machine}
use Rattle.jstepping.specs.jcore.MachineOutcomes.{IsBehind}
use Rattle.jstepping.specs.jcore.MachineInvariants.{IsMachine, StaysFixed, classes_of, state_of, things_of}

abbrev pub left_as : {E : Type 0} → Option (Framed E) → Heaped → Things → Machine E → Machine E
left_as frames heap things m = record {
  fixed = m.fixed;
  plan = m.plan;
  side = m.side;
  guests = with_frames frames m.guests;
  heap = heap;
  constants = m.constants;
  permissions = things.permissions;
  kept = things.kept;
  calls = m.calls;
}

-- The running thread has frames, each of which may go on behind its instruction.
pub record RunsStanding {E : Type 0} (m : Machine E) : Type 0 where
  pub frames : Framed E
  pub runs : m.guests.running.frames ≡ Some frames
  pub stand : Stand (classes_of m) (all frames)

-- ---- laws

-- What holds of a machine holds of it then, if it holds of its heap and of what it keeps.
abbrev pub LeftIsMachine : Type 0 → Type 0
LeftIsMachine E = (m : Machine E) (frames : Option (Framed E)) (heap : Heaped) (things : Things) → IsMachine m → AreBuilt heap.objects
    → AreCelled m.fixed.shapes.now heap.objects
    → AreHeld m.calls m.fixed.shapes.now things.permissions heap.objects → AreKept m.calls m.fixed.shapes.now things heap.objects
    → IsMachine (left_as frames heap things m)

-- So does what holds of it with an exception of a class more, or with none.
abbrev pub RaisedIsMachine : Type 0 → Type 0
RaisedIsMachine E = (m : Machine E) (frames : Option (Framed E)) (heap : Heaped) (class : ThrownClass) → IsMachine m → RaisedHeap class m.heap heap
    → AreBuilt heap.objects → StayCelled m.heap.objects heap.objects → IsMachine (left_as frames heap (things_of m) m)

-- It stands for the same state, but for those frames and its store.
abbrev pub LeftIsBehind : Type 0 → Type 0
LeftIsBehind E = (m : Machine E) (s : State ℕ E) (frames : Option (Framed E)) (heap : Heaped) (things : Things) → IsBehind m s
    → IsBehind (left_as frames heap things m) s

-- Its program and its plan stay as long as each step leaves them.
abbrev pub StaysOn : Type 0 → Type 0
StaysOn E = (m mid n : Machine E) → StaysFixed m mid → StaysFixed mid n → StaysFixed m n

-- The number of the running thread is that of the definition's.
abbrev pub IsNumbered : Type 0 → Type 0
IsNumbered E = (m : Machine E) → IsMachine m → thread_of (state_of m) ≡ m.guests.at
