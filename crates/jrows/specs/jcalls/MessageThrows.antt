-- What a step comes to in which an exception with a message is raised (JVMS 2.10).
use Rattle.std.specs.Prelude.{◌≡◌, ◌⊎◌, ⊤, ◌+◌, ◌<◌, ◌≤◌, ℕ, List, [], length, nat_le, Option, Some, None, if◌then◌else◌}
use Rattle.std.specs.List.{AllByRecursion}
use Rattle.jmemory.specs.jheap.Heaps.{Heaped}
use Rattle.jlib.specs.declared.classes.LibClass.{LibClass}
use Rattle.jlib.specs.declared.classes.LibClass.TheVariants as lib
use Rattle.jtypes.specs.declared.vtype.VType.TheVariants as types
use Rattle.joutput.specs.declared.jtrace.event.Event.{Event}
use Rattle.joutput.specs.declared.jtrace.event.End.TheVariants.{HeapFull}
use Rattle.jresolution.specs.declared.jprogram.member.MethodId.{MethodId}
use Rattle.jresolution.specs.jprogram.ProgramClasses.{Program}
use Rattle.jsemantics.specs.declared.jmachine.plan.Plan.{Plan}
use Rattle.jsemantics.specs.jmachine.MachineStates.{FrameOf, Outcome, Over, State, cells_of, two}
use Rattle.jsemantics.specs.jmachine.HeapObjects.{Thrown, library_name}
use Rattle.jsemantics.specs.jmachine.Security.{Rules}
use Rattle.jsemantics.specs.jmachine.MachineSteps.{raised}
use Rattle.jsemantics.specs.jmachine.Store.{paid, with_made}
use Rattle.jsemantics.specs.jmachine.Unwinding.{with_raised}
use Rattle.jruntime.specs.jstate.FrameLists.{Framed, all}
use Rattle.jruntime.specs.declared.jstate.shapes.Shapes.{Shapes}
use Rattle.jruntime.specs.jstate.HeapMeanings.{Things, store_by}
use Rattle.jrows.specs.declared.jcalls.raising.Raised.{Raised}
use Rattle.jrows.specs.jcalls.FrameMarks.{marks_of}
use Rattle.jrows.specs.jcalls.Throws.{RaisedAs}
use Rattle.jrows.specs.jcalls.Unwinds.{IsTold}

-- objects of the class hold a message and nothing else
abbrev pub HoldsMessage : LibClass → Type 0
HoldsMessage (lib.Thrown c) = ⊤
HoldsMessage lib.AccessControlException = ⊤
HoldsMessage c = ⊥

-- the cells of an exception and of its message
abbrev pub told_cells : List ℕ → ℕ
told_cells units = two + cells_of (length units)

-- What raising an exception of a class comes to behind these events, with a message of these units: it costs the cells of both, and where
-- they aren't there nothing changes.
abbrev pub raising_with : {E : Type 0} → Rules ℕ E → Program → Plan → State ℕ E → List (FrameOf ℕ E) → List Event → LibClass → List ℕ
    → Outcome (State ℕ E)
raising_with r p plan s frames told class units =
    if nat_le (told_cells units) s.store.left then raised r p plan s frames told (with_raised (paid (told_cells units) s.store) class (Some units))
    else Over s [] HeapFull

-- An exception of a class of the library was raised with a message in these frames, and these were left.
abbrev pub RaisesWith : {E : Type 0} → List E → (MethodId → ℕ → Option ℕ) → LibClass → List ℕ → Framed E → Heaped → Raised → Framed E → Heaped
    → Type 0
RaisesWith {E} marks goes class units f h way g k = (r : Rules ℕ E) (p : Program) (plan : Plan) (s : State ℕ E) (told : List Event)
    (shapes : Shapes) (things : Things) (constants : List (List ℕ × ℕ)) → let type = types.Object (library_name class) in
    marks ≡ marks_of r.entry_of p → s.store ≡ store_by p shapes things constants h → AllByRecursion (IsTold p type goes) (all f)
    → RaisedAs r p plan s told type (store_by p shapes things constants k) way g (raising_with r p plan s (all f) told class units)

-- ---- what is made

-- An exception of a class was made, whose message is an object of this number, and this is its own.
pub record MakesThrown (class : LibClass) (message : ℕ) (h : Heaped) (o : ℕ) (k : Heaped) : Type 0 where
  pub number : o ≡ length k.objects
  pub store : (p : Program) (shapes : Shapes) (things : Things) (constants : List (List ℕ × ℕ))
      → store_by p shapes things constants k ≡ paid two (with_made (store_by p shapes things constants h) (Thrown class message))

-- So it was with a message of these units in front, where the cells of both are left; else nothing has changed.
abbrev pub MakesTold : LibClass → List ℕ → Heaped → Option ℕ → Heaped → Type 0
MakesTold class units h None k = (h.left < told_cells units) × (k ≡ h)
MakesTold class units h (Some o) k = (told_cells units ≤ h.left) × (o ≡ length k.objects)
    × ((p : Program) (shapes : Shapes) (things : Things) (constants : List (List ℕ × ℕ))
    → store_by p shapes things constants k ≡ with_raised (paid (told_cells units) (store_by p shapes things constants h)) class (Some units))

-- Where an exception was raised with a message of these units the heap has both more, or it is as it was.
abbrev pub TellsHeap : LibClass → List ℕ → Heaped → Heaped → Type 0
TellsHeap class units h k = (k ≡ h) ⊎ ((p : Program) (shapes : Shapes) (things : Things) (constants : List (List ℕ × ℕ))
    → store_by p shapes things constants k ≡ with_raised (paid (told_cells units) (store_by p shapes things constants h)) class (Some units))
