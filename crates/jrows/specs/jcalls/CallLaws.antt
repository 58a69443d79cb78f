-- Laws: which target a step has that executes a call, and what it asks of access control, by what the call came to.
use Rattle.std.specs.Prelude.{◌≡◌, ⊤, ℕ, take, Some, None}
use Rattle.jlib.specs.declared.calls.LibCall.{LibCall}
use Rattle.jresolution.specs.jprogram.ProgramClasses.{Program}
use Rattle.jresolution.specs.declared.juses.meaning.InvokeKind.{InvokeKind}
use Rattle.jresolution.specs.juses.IndexedInstructions.{Used}
use Rattle.jresolution.specs.juses.InstructionMeanings.{Call, CallMeaning}
use Rattle.jsemantics.specs.declared.jmachine.plan.Plan.{Plan}
use Rattle.jsemantics.specs.jmachine.MachineStates.{State}
use Rattle.jsemantics.specs.jmachine.AccessQueries.{asked_by, run_asks}
use Rattle.jsemantics.specs.jmachine.CallTargets.{Runs, target}
use Rattle.jsemantics.specs.jmachine.Security.{Rules}
use Rattle.jsemantics.specs.jmachine.MachineSteps.{site}
use Rattle.jruntime.specs.jstate.FrameLists.{Framed}
use Rattle.jrows.specs.declared.jcalls.calls.Called.{Called}
use Rattle.jrows.specs.declared.jcalls.calls.Called.TheVariants as ways
use Rattle.jrows.specs.jcalls.MethodCalls.{CalledAs, Takes, calls}

-- Where the library runs, the call comes to that member of it, by the operands that serve,
abbrev pub TargetsWhatRuns : Type 0 → Type 0
TargetsWhatRuns E = (r : Rules ℕ E) (p : Program) (plan : Plan) (s : State ℕ E) (count : ℕ) (f g : Framed E) (by : InvokeKind) (c : CallMeaning)
    (call : LibCall)
    → Takes p s by c count f → CalledAs r p plan s count f (ways.Runs call) g (calls r p plan s f by c)
    → target (site r p plan s f.newest f.below) s.store by c (take count f.newest.operands) ≡ Some (Runs call)

-- and the step asks what that member does of them.
abbrev pub AsksWhatRuns : Type 0 → Type 0
AsksWhatRuns E = (r : Rules ℕ E) (p : Program) (plan : Plan) (s : State ℕ E) (count : ℕ) (f g : Framed E) (by : InvokeKind) (c : CallMeaning)
    (call : LibCall)
    → CalledAs r p plan s count f (ways.Runs call) g (calls r p plan s f by c)
    → asked_by r.side p plan s f.newest f.below (Some (Used (Call by c)))
    ≡ run_asks r.side (site r p plan s f.newest f.below) s.store call (take count f.newest.operands)

-- nothing of the library runs
abbrev pub RunsNothing : Called → Type 0
RunsNothing (ways.Runs call) = ⊥
RunsNothing way = ⊤

-- Else it asks nothing.
abbrev pub AsksNothing : Type 0 → Type 0
AsksNothing E = (r : Rules ℕ E) (p : Program) (plan : Plan) (s : State ℕ E) (count : ℕ) (f g : Framed E) (by : InvokeKind) (c : CallMeaning)
    (way : Called)
    → RunsNothing way → CalledAs r p plan s count f way g (calls r p plan s f by c)
    → asked_by r.side p plan s f.newest f.below (Some (Used (Call by c))) ≡ None
