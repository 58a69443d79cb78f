-- What a machine by numbers stands for, and what holds of it between steps.
use Rattle.std.specs.Prelude.{◌≡◌, ◌<◌, ◌+◌, ◌^◌, ℕ, List, Some, length, slice_get}
use Rattle.jlinking.specs.jlink.ProgramFiles.{AreFiles}
use Rattle.jsemantics.specs.jmachine.MachineStates.{State}
use Rattle.jsemantics.specs.jmachine.Security.{Rules}
use Rattle.jsemantics.specs.jmachine.Store.{Store}
use Rattle.jserving.specs.jcells.CellLayout.{AreTied}
use Rattle.jruntime.specs.declared.jstate.shapes.Shape.{Shape}
use Rattle.jruntime.specs.jstate.ObjectCells.{AreCelled}
use Rattle.jruntime.specs.jstate.FrameLists.{Framed}
use Rattle.jruntime.specs.jstate.HeapMeanings.{AreBuilt, Things, store_by}
use Rattle.jrows.specs.declared.jcalls.ready.Counts.{Counts}
use Rattle.jrows.specs.jcalls.FrameMarks.{AreStanding, marks_of}
use Rattle.jstepping.specs.jstep.StepRelation.{IsFixed}
use Rattle.jruntime.specs.declared.jguests.guests.Guest.{Guest}
use Rattle.jruntime.specs.jguests.GuestThreads.{AreGuests, Lives, state_by}
use Rattle.jlibcalls.specs.jlibrary.HeldPermissions.{AreHeld}
use Rattle.jlibcalls.specs.jcontexts.KeptContexts.{AreKept}
use Rattle.jstepping.specs.declared.jcore.machine.Machine.{Machine}

-- ---- what it stands for

abbrev pub things_of : {E : Type 0} → Machine E → Things
things_of m = record { permissions = m.permissions; kept = m.kept }

abbrev pub store_of : {E : Type 0} → Machine E → Store ℕ
store_of m = store_by m.calls m.fixed.shapes.now (things_of m) m.constants.constants m.heap

abbrev pub state_of : {E : Type 0} → Machine E → State ℕ E
state_of m = state_by m.guests (store_of m)

-- how many permissions and contexts it keeps
abbrev pub counts_of : {E : Type 0} → Machine E → Counts
counts_of m = record { permissions = length m.permissions; contexts = length m.kept }

-- how many classes there are of users
abbrev pub classes_of : {E : Type 0} → Machine E → ℕ
classes_of m = length m.fixed.marks.now

-- ---- what holds

-- the frames of a thread, where it has any, may go on
abbrev pub GuestStands : {E : Type 0} → ℕ → Guest E → Type 0
GuestStands {E} classes x = (f : Framed E) → x.frames ≡ Some f → AreStanding classes f

-- so do those of all threads that wait
abbrev pub OthersStand : {E : Type 0} → ℕ → List (Guest E) → Type 0
OthersStand {E} classes others = (x : Guest E) (i : ℕ) → slice_get others i ≡ Some x → GuestStands classes x

-- What holds whenever nothing is half done to its heap.
pub record IsMachine {E : Type 0} (m : Machine E) : Type 0 where
  pub fixed : IsFixed m.calls m.fixed
  pub files : AreFiles m.calls
  pub depth : m.plan.now.depth ≡ m.fixed.depth
  pub tied : AreTied m.calls m.fixed.tables.now m.fixed.shapes.now
  pub small : (i : ℕ) (shape : Shape) → slice_get m.fixed.shapes.now.users i ≡ Some shape → length shape.cells + 1 < 2 ^ 32
  pub constants : m.constants.program ≡ m.calls
  pub guests : AreGuests m.guests
  pub others : OthersStand (classes_of m) m.guests.others.items
  pub built : AreBuilt m.heap.objects
  pub celled : AreCelled m.fixed.shapes.now m.heap.objects
  -- no object names a permission or a context that isn't kept
  pub held : AreHeld m.calls m.fixed.shapes.now m.permissions m.heap.objects
  pub kept : AreKept m.calls m.fixed.shapes.now (things_of m) m.heap.objects

-- What holds between steps.
pub record IsReady {E : Type 0} (m : Machine E) : Type 0 where
  pub machine : IsMachine m
  -- the running thread is runnable, and none waits for one that has ended
  pub lives : Lives m.guests
  pub running : GuestStands (classes_of m) m.guests.running

-- Its program and its plan stay.
pub record StaysFixed {E : Type 0} (m n : Machine E) : Type 0 where
  pub fixed : n.fixed ≡ m.fixed
  pub plan : n.plan ≡ m.plan
  pub side : n.side ≡ m.side
  pub calls : n.calls ≡ m.calls

-- Rules of its side, whose frames carry what its frames carry.
pub record AreRules {E : Type 0} (m : Machine E) (r : Rules ℕ E) : Type 0 where
  pub marks : m.fixed.marks.now ≡ marks_of r.entry_of m.calls
  pub side : r.side ≡ m.side
