-- What a step comes to in which something is raised or thrown (JVMS 2.10).
use Rattle.std.specs.Prelude.{◌≡◌, ◌⊎◌, ℕ, true, List, [], ◌∷◌, ◌++◌, nat_le, Option, Some, None, if◌then◌else◌}
use Rattle.std.specs.List.{AllByRecursion}
use Rattle.jmemory.specs.declared.jheap.cell.Kind.TheVariants as kinds
use Rattle.jmemory.specs.jheap.Heaps.{Heaped, made}
use Rattle.jlib.specs.declared.classes.LibClass.{LibClass}
use Rattle.jlib.specs.declared.classes.Thrown.{Thrown as ThrownClass}
use Rattle.jtypes.specs.declared.vtype.VType.{VType}
use Rattle.jtypes.specs.declared.vtype.VType.TheVariants as types
use Rattle.joutput.specs.declared.jtrace.event.Event.{Event}
use Rattle.joutput.specs.declared.jtrace.event.Event.TheVariants.{Throw, Uncaught}
use Rattle.joutput.specs.declared.jtrace.event.End.TheVariants.{HeapFull}
use Rattle.jresolution.specs.declared.jprogram.member.MethodId.{MethodId}
use Rattle.jresolution.specs.jprogram.ProgramClasses.{Program}
use Rattle.jsemantics.specs.declared.jmachine.plan.Plan.{Plan}
use Rattle.jsemantics.specs.jmachine.MachineStates.{FrameOf, Outcome, Over, State, two}
use Rattle.jsemantics.specs.jmachine.HeapObjects.{Object, class_of, library_name}
use Rattle.jsemantics.specs.jmachine.Security.{Rules}
use Rattle.jsemantics.specs.jmachine.MachineSteps.{raised, thrown_at, went}
use Rattle.jsemantics.specs.jmachine.Store.{Store, object_at, paid}
use Rattle.jsemantics.specs.jmachine.ThreadTurns.{ended, thread_of}
use Rattle.jsemantics.specs.jmachine.Unwinding.{told_name, with_raised}
use Rattle.jsemantics.specs.jmachine.World.{world}
use Rattle.jruntime.specs.jstate.FrameLists.{Framed, all}
use Rattle.jruntime.specs.declared.jstate.shapes.Shapes.{Shapes}
use Rattle.jruntime.specs.jstate.ClassNumbers.{thrown_number}
use Rattle.jruntime.specs.jstate.HeapMeanings.{Things, store_by}
use Rattle.jrows.specs.declared.jcalls.raising.Raised.{Raised}
use Rattle.jrows.specs.declared.jcalls.raising.Raised.TheVariants as ways
use Rattle.jrows.specs.jcalls.FrameMarks.{AreStanding, Stand, marks_of}
use Rattle.jrows.specs.jcalls.Unwinds.{IsTold}

-- What raising an exception of a class of the library comes to behind these events, without a message: it costs its cells, and where they
-- aren't there nothing changes.
abbrev pub raising : {E : Type 0} → Rules ℕ E → Program → Plan → State ℕ E → List (FrameOf ℕ E) → List Event → LibClass → Outcome (State ℕ E)
raising r p plan s frames told class =
    if nat_le two s.store.left then raised r p plan s frames told (with_raised (paid two s.store) class None) else Over s [] HeapFull

-- The cells for the exception aren't there, and the run is over; or the thread goes on with these frames; or it has ended by the exception.
abbrev pub RaisedAs : {E : Type 0} → Rules ℕ E → Program → Plan → State ℕ E → List Event → VType → Store ℕ → Raised → Framed E → Outcome (State ℕ E)
    → Type 0
RaisedAs r p plan s told type store ways.Full g outcome = outcome ≡ Over s [] HeapFull
RaisedAs r p plan s told type store ways.Handled g outcome = outcome
    ≡ went r p plan s (all g) store (told ++ Throw (thread_of s) (told_name type) ∷ [])
RaisedAs r p plan s told type store ways.Uncaught g outcome =
    outcome ≡ ended plan.schedule s store true (told ++ Throw (thread_of s) (told_name type) ∷ Uncaught (thread_of s) (told_name type) ∷ [])

-- An exception of a class of the library was raised in these frames, and these were left.
abbrev pub Raises : {E : Type 0} → List E → (MethodId → ℕ → Option ℕ) → LibClass → Framed E → Heaped → Raised → Framed E → Heaped → Type 0
Raises {E} marks goes class f h way g k = (r : Rules ℕ E) (p : Program) (plan : Plan) (s : State ℕ E) (told : List Event)
    (shapes : Shapes) (things : Things) (constants : List (List ℕ × ℕ)) → let type = types.Object (library_name class) in
    marks ≡ marks_of r.entry_of p → s.store ≡ store_by p shapes things constants h → AllByRecursion (IsTold p type goes) (all f)
    → RaisedAs r p plan s told type (store_by p shapes things constants k) way g (raising r p plan s (all f) told class)

-- The object of a number was thrown in these frames, and these were left.
abbrev pub Throws : {E : Type 0} → List E → (MethodId → ℕ → Option ℕ) → ℕ → Framed E → Raised → Framed E → Type 0
Throws {E} marks goes n f way g = (r : Rules ℕ E) (p : Program) (plan : Plan) (s : State ℕ E) (told : List Event) (store : Store ℕ) (x : Object ℕ)
    → let type = class_of (world p).named x in
    marks ≡ marks_of r.entry_of p → object_at store n ≡ Some x → AllByRecursion (IsTold p type goes) (all f)
    → RaisedAs r p plan s told type store way g (thrown_at r p plan s (all f) store told n)

-- Frames in which something was thrown stood, and those that were left stand between steps.
abbrev pub LeavesStanding : {E : Type 0} → Framed E → Framed E → Type 0
LeavesStanding f g = (classes : ℕ) → Stand classes (all f) → AreStanding classes g

-- Where an exception was raised the heap has one more object, of its class, or it is as it was.
abbrev pub RaisedHeap : ThrownClass → Heaped → Heaped → Type 0
RaisedHeap class h k = (k ≡ h) ⊎ (k ≡ made h (kinds.Object (thrown_number class)) 1)
