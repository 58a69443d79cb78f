-- What a call by an interface of the library comes to that the machine makes itself (class documentation of PrivilegedAction, Runnable).
use Rattle.std.specs.Prelude.{◌≡◌, ◌⊎◌, ◌<◌, ⊤, ℕ, Bool, List, [], Option, Some, None, option_map}
use Rattle.jmemory.specs.jheap.Heaps.{Heaped}
use Rattle.jlib.specs.declared.calls.LibCall.{LibCall}
use Rattle.jlib.specs.declared.classes.LibClass.{LibClass}
use Rattle.jlib.specs.declared.classes.LibClass.TheVariants as lib
use Rattle.jresolution.specs.declared.jprogram.member.CallKind.TheVariants as call_kinds
use Rattle.jresolution.specs.declared.jprogram.member.Member.TheVariants.{LibMethod}
use Rattle.jresolution.specs.declared.jprogram.member.Selected.{Selected}
use Rattle.jresolution.specs.jprogram.ProgramClasses.{Program}
use Rattle.jresolution.specs.juses.InstructionMeanings.{CallMeaning}
use Rattle.jsemantics.specs.jmachine.CallTargets as targets
use Rattle.jsemantics.specs.jmachine.CallTargets.{by_interface, is_hidden}
use Rattle.jsemantics.specs.jmachine.HeapObjects.{library_name}
use Rattle.jsemantics.specs.jmachine.Store.{object_at}
use Rattle.jsemantics.specs.jmachine.World.{world}
use Rattle.jruntime.specs.declared.jstate.shapes.Shapes.{Shapes}
use Rattle.jruntime.specs.jstate.HeapMeanings.{Things, store_by}
use Rattle.jrows.specs.jcalls.MethodCalls.{IsCallee}
use Rattle.jrows.specs.jcalls.FrameMarks.{marks_of}
use Rattle.jserving.specs.declared.jinvoke.choosing.Answer.{Answer}
use Rattle.jserving.specs.declared.jinvoke.faces.Target.{Target}
use Rattle.jserving.specs.declared.jinvoke.faces.Target.TheVariants as ways
use Rattle.jserving.specs.jinvoke.Answers.{chosen, id_on, is_one_of}

-- a method of an interface of the library, which has no parameters and returns nothing
abbrev pub face_call : LibClass → LibCall → CallMeaning
face_call face call = record { owner = library_name face; params = []; ret = None; member = LibMethod call }

-- what is selected for it on a class
abbrev pub face_selected : Program → LibCall → Option ℕ → Selected
face_selected p call on = (world p).select (id_on on) (LibMethod call) call_kinds.Interface

-- what is known of a call of it
abbrev pub face_answer : Program → LibClass → LibCall → Option ℕ → Answer
face_answer p face call on =
    let s = face_selected p call on in
    record { what = chosen p s; has = is_one_of p on (library_name face); hidden = is_hidden (world p) s }

-- A call comes to this, whoever marks frames: there is no object, or the library has the method, where it is stuck.
abbrev pub TargetAs : {E : Type 0} → (ℕ → E) → Program → Target E → Option targets.Target → Type 0
TargetAs entry_of p (ways.Fails class) t = t ≡ Some (targets.Fails (lib.Thrown class))
TargetAs entry_of p (ways.Pushes c) t = (t ≡ Some (targets.Pushes c.method)) × IsCallee entry_of p c
TargetAs entry_of p ways.Stuck t = (t ≡ None) ⊎ ((call : LibCall) × (t ≡ Some (targets.Runs call)))

-- A call of the method on the object of a number comes to this, where these are what the rules give to frames of each class.
abbrev pub FaceTarget : {E : Type 0} → Program → List E → Heaped → LibClass → LibCall → (full : Bool) → ℕ → Target E → Type 0
FaceTarget {E} p marks h face call full o t = (entry_of : ℕ → E) (shapes : Shapes) (things : Things) (constants : List (List ℕ × ℕ))
    → marks ≡ marks_of entry_of p
    → TargetAs entry_of p t (option_map (by_interface (world p) full (face_call face call)) (object_at (store_by p shapes things constants h) o))

-- a method that is called is of one of so many classes
abbrev pub TargetWithin : {E : Type 0} → ℕ → Target E → Type 0
TargetWithin classes (ways.Pushes c) = c.method.class < classes
TargetWithin classes t = ⊤
