-- How a thread begins (JVMS 2.11; class documentation of Thread): with `run` of its Runnable, if it has one.
use Rattle.std.specs.Prelude.{◌≡◌, ◌⊎◌, ◌<◌, ⊤, ℕ, Bool, true, false, List, [], ◌∷◌, Option, Some, None, option_map}
use Rattle.jmemory.specs.jheap.Heaps.{Heaped}
use Rattle.jlib.specs.declared.calls.LibCall.{LibCall}
use Rattle.jlib.specs.declared.calls.LibCall.TheVariants as calls
use Rattle.jlib.specs.declared.classes.LibClass.TheVariants as lib
use Rattle.jlib.specs.declared.classes.Thrown.{Thrown as ThrownClass}
use Rattle.jlib.specs.declared.side.Side.{Side}
use Rattle.jresolution.specs.declared.jprogram.member.Member.TheVariants.{LibMethod}
use Rattle.jresolution.specs.jprogram.ProgramClasses.{Program}
use Rattle.joutput.specs.declared.jtrace.event.Event.TheVariants.{Throw, Uncaught}
use Rattle.joutput.specs.declared.jtrace.event.End.TheVariants.{HeapFull}
use Rattle.jtypes.specs.declared.vtype.VType.TheVariants as types
use Rattle.jresolution.specs.juses.InstructionMeanings.{CallMeaning}
use Rattle.jsemantics.specs.declared.jmachine.plan.Plan.{Plan}
use Rattle.jsemantics.specs.jmachine.MachineStates.{NoStep, Outcome, Over, State}
use Rattle.jsemantics.specs.jmachine.AccessQueries.{asks}
use Rattle.jsemantics.specs.jmachine.CallTargets.{Fails, Pushes, Runs, Target, by_interface}
use Rattle.jsemantics.specs.jmachine.HeapObjects.{library_name}
use Rattle.jsemantics.specs.jmachine.Security.{Rules}
use Rattle.jsemantics.specs.jmachine.MachineSteps.{step, went}
use Rattle.jsemantics.specs.jmachine.Store.{Store, object_at}
use Rattle.jsemantics.specs.jmachine.ThreadTurns.{ended, thread_of}
use Rattle.jsemantics.specs.jmachine.Unwinding.{told_name}
use Rattle.jsemantics.specs.jmachine.World.{world}
use Rattle.jruntime.specs.declared.jstate.shapes.Shapes.{Shapes}
use Rattle.jruntime.specs.jstate.FrameLists.{Framed, all}
use Rattle.jruntime.specs.jstate.HeapMeanings.{Things, store_by}
use Rattle.jrows.specs.declared.jcalls.calls.Callee.{Callee}
use Rattle.jrows.specs.jcalls.MethodCalls.{IsCallee}
use Rattle.jrows.specs.jcalls.FrameMarks.{AreStanding}

-- ---- what is called

abbrev pub run_of : Side → CallMeaning
run_of side = record { owner = library_name lib.Runnable; params = []; ret = None; member = LibMethod (calls.Run side) }

-- what a call of `run` on the object of a number comes to, if there is one
abbrev pub begins_by : Side → Program → Store ℕ → ℕ → Option Target
begins_by side p s n = option_map (by_interface (world p) false (run_of side)) (object_at s n)

-- The running thread has no frames, and begins with the Runnable of a number.
pub record IsUnbegun {E : Type 0} (n : ℕ) (s : State ℕ E) : Type 0 where
  pub frames : s.running.frames ≡ []
  pub runnable : s.running.runnable ≡ n
  pub some : n ≡ 0 → ⊥

-- ---- a frame of `run`

-- The thread goes on with these frames, or there is no step.
abbrev pub BegunAs : {E : Type 0} → Rules ℕ E → Program → Plan → State ℕ E → Option (Framed E) → Outcome (State ℕ E) → Type 0
BegunAs r p plan s None outcome = outcome ≡ NoStep
BegunAs r p plan s (Some g) outcome = outcome ≡ went r p plan s (all g) s.store []

-- A thread that inherited this on a side began with a method as `run` of the Runnable of a number, whatever the rules and the state are.
abbrev pub Begins : {E : Type 0} → Callee E → (runnable : ℕ) → Option ℕ → Side → Option (Framed E) → Type 0
Begins {E} c n inherited side begun = (r : Rules ℕ E) (p : Program) (plan : Plan) (s : State ℕ E)
    → IsUnbegun n s → s.running.inherited ≡ inherited → r.side ≡ side → IsCallee r.entry_of p c → begins_by side p s.store n ≡ Some (Pushes c.method)
    → BegunAs r p plan s begun (step r p plan s)

-- Its frame stands, where the method is of one of so many classes.
abbrev pub BeginsStanding : {E : Type 0} → Callee E → Option (Framed E) → Type 0
BeginsStanding c None = ⊤
BeginsStanding c (Some g) = (classes : ℕ) → c.method.class < classes → AreStanding classes g

-- ---- an exception

-- The thread has ended by an exception, or the cells for it aren't there, and the run is over.
abbrev pub FailedAs : {E : Type 0} → Plan → State ℕ E → ThrownClass → Bool → Store ℕ → Outcome (State ℕ E) → Type 0
FailedAs plan s class true store outcome = let name = told_name (types.Object (library_name (lib.Thrown class))) in
    outcome ≡ ended plan.schedule s store true (Throw (thread_of s) name ∷ Uncaught (thread_of s) name ∷ [])
FailedAs plan s class false store outcome = outcome ≡ Over s [] HeapFull

-- An exception of a class was raised where a thread was to begin, and this heap was left.
abbrev pub FailsFirst : Type 0 → ThrownClass → Heaped → Bool → Heaped → Type 0
FailsFirst E class h room k = (r : Rules ℕ E) (p : Program) (plan : Plan) (s : State ℕ E) (shapes : Shapes) (things : Things)
    (constants : List (List ℕ × ℕ)) (n : ℕ)
    → IsUnbegun n s → s.store ≡ store_by p shapes things constants h → begins_by r.side p s.store n ≡ Some (Fails (lib.Thrown class))
    → FailedAs plan s class room (store_by p shapes things constants k) (step r p plan s)

-- ---- laws

-- A thread without a Runnable ends where it begins.
abbrev pub EndsUnbegun : Type 0 → Type 0
EndsUnbegun E = (r : Rules ℕ E) (p : Program) (plan : Plan) (s : State ℕ E) → s.running.frames ≡ [] → s.running.runnable ≡ 0
    → step r p plan s ≡ ended plan.schedule s s.store false []

-- One whose Runnable is no object, or has its `run` from the library, has no step.
abbrev pub StuckUnbegun : Type 0 → Type 0
StuckUnbegun E = (r : Rules ℕ E) (p : Program) (plan : Plan) (s : State ℕ E) (n : ℕ) → IsUnbegun n s
    → (begins_by r.side p s.store n ≡ None) ⊎ ((call : LibCall) × (begins_by r.side p s.store n ≡ Some (Runs call)))
    → step r p plan s ≡ NoStep

-- A thread that begins asks nothing of access control.
abbrev pub AsksNothing : Type 0 → Type 0
AsksNothing E = (side : Side) (p : Program) (plan : Plan) (s : State ℕ E) → s.running.frames ≡ [] → asks side p plan s ≡ None
