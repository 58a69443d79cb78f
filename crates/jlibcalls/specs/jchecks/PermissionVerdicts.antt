-- What a step comes to that checks a permission, by the verdict.
use Rattle.std.specs.Prelude.{◌≡◌, ℕ, List, [], ◌∷◌, drop, take, Option, Some, None}
use Rattle.std.specs.List.{AllByRecursion}
use Rattle.jperm.specs.declared.permission.Permission as perms
use Rattle.jdomain.specs.declared.verdict.Verdict.{Verdict}
use Rattle.jdomain.specs.declared.verdict.Verdict.TheVariants as verdicts
use Rattle.jmemory.specs.jheap.Heaps.{Heaped}
use Rattle.jlib.specs.declared.classes.LibClass.TheVariants as lib
use Rattle.jlib.specs.declared.classes.Thrown.TheVariants as thrown
use Rattle.jvalues.specs.declared.jops.value.Value.{Value}
use Rattle.jtypes.specs.declared.vtype.VType.{VType}
use Rattle.jtypes.specs.declared.vtype.VType.TheVariants as types
use Rattle.joutput.specs.declared.jtrace.event.Event.TheVariants.{Grant, Deny}
use Rattle.jresolution.specs.declared.jprogram.member.MethodId.{MethodId}
use Rattle.jresolution.specs.jprogram.ProgramClasses.{Program}
use Rattle.jsemantics.specs.declared.jmachine.plan.Plan.{Plan}
use Rattle.jsemantics.specs.jmachine.MachineStates.{NoStep, Outcome, Row, State, null}
use Rattle.jsemantics.specs.jmachine.HeapObjects.{library_name}
use Rattle.jsemantics.specs.jmachine.Security as security
use Rattle.jsemantics.specs.jmachine.Security.{Rules}
use Rattle.jsemantics.specs.jmachine.MachineSteps.{went}
use Rattle.jsemantics.specs.jmachine.Store.{Store}
use Rattle.jsemantics.specs.jmachine.ThreadTurns.{thread_of}
use Rattle.jruntime.specs.jstate.FrameLists.{Framed, all, holding}
use Rattle.jruntime.specs.declared.jstate.shapes.Shapes.{Shapes}
use Rattle.jruntime.specs.jstate.HeapMeanings.{Things, store_by}
use Rattle.jrows.specs.jcalls.MethodCalls.{stepped}
use Rattle.jrows.specs.jcalls.FrameMarks.{marks_of}
use Rattle.jrows.specs.jcalls.Throws.{RaisedAs, raising}
use Rattle.jrows.specs.jcalls.Unwinds.{IsTold}
use Rattle.jlibcalls.specs.declared.jchecks.judging.Judged.{Judged}
use Rattle.jlibcalls.specs.declared.jchecks.judging.Judged.TheVariants as ways

-- the type of the exception of a denied check
abbrev pub denied_type : VType
denied_type = types.Object (library_name lib.AccessControlException)

-- A granted check is told, and the thread goes on with these frames; a denied one is told and raises an exception.
abbrev pub JudgedAs : {E : Type 0} → Rules ℕ E → Program → Plan → State ℕ E → perms.Permission → Verdict → Judged → Framed E → Store ℕ
    → Outcome (State ℕ E) → Type 0
JudgedAs r p plan s asked verdicts.Granted ways.Granted g store outcome = outcome ≡ went r p plan s (all g) store (Grant (thread_of s) asked ∷ [])
JudgedAs r p plan s asked (verdicts.Denied domain) (ways.Denied way) g store outcome =
    RaisedAs r p plan s (Deny (thread_of s) asked domain ∷ []) denied_type store way g outcome
JudgedAs r p plan s asked verdict way g store outcome = ⊥

-- A check was decided so, with so many operands of its call there, and these frames and this heap were left: the step is the one whose row
-- does what the verdict says.
abbrev pub Judges : {E : Type 0} → List E → (MethodId → ℕ → Option ℕ) → perms.Permission → Verdict → (count : ℕ) → Framed E → Heaped → Judged
    → Framed E → Heaped → Type 0
Judges {E} marks goes asked verdict count f h way g k = (r : Rules ℕ E) (p : Program) (plan : Plan) (s : State ℕ E)
    (shapes : Shapes) (things : Things) (constants : List (List ℕ × ℕ)) (row : List (Value ℕ) → Option (Row ℕ E))
    → marks ≡ marks_of r.entry_of p → s.store ≡ store_by p shapes things constants h → AllByRecursion (IsTold p denied_type goes) (all f)
    → row (take count f.newest.operands) ≡ Some (security.judged s.store (thread_of s) asked verdict)
    → JudgedAs r p plan s asked verdict way g (store_by p shapes things constants k) (stepped r p plan s f count row)

-- A check of null raises an exception, with the operands gone.
abbrev pub NullRaises : Type 0 → Type 0
NullRaises E = (r : Rules ℕ E) (p : Program) (plan : Plan) (s : State ℕ E) (f : Framed E) (count : ℕ) (row : List (Value ℕ) → Option (Row ℕ E))
    → row (take count f.newest.operands) ≡ Some null
    → stepped r p plan s f count row ≡ raising r p plan s (all (holding (drop count f.newest.operands) f)) [] (lib.Thrown thrown.NullPointerException)

-- A check of what holds no permission is stuck.
abbrev pub NothingSteps : Type 0 → Type 0
NothingSteps E = (r : Rules ℕ E) (p : Program) (plan : Plan) (s : State ℕ E) (f : Framed E) (count : ℕ) (row : List (Value ℕ) → Option (Row ℕ E))
    → row (take count f.newest.operands) ≡ None → stepped r p plan s f count row ≡ NoStep
