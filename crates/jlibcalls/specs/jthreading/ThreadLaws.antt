-- Laws: what calls of Thread ask of access control, and which constructors have no step.
use Rattle.std.specs.Prelude.{◌≡◌, ⊤, ℕ, List, Some, None, take}
use Rattle.jmemory.specs.jheap.Heaps.{Heaped}
use Rattle.jlib.specs.declared.calls.LibCall.TheVariants as calls
use Rattle.jlib.specs.declared.calls.ThreadCall.{ThreadCall}
use Rattle.jlib.specs.declared.calls.ThreadCall.TheVariants as threads
use Rattle.jlib.specs.declared.side.Side.{Side}
use Rattle.jvalues.specs.declared.jops.value.Value.{Value}
use Rattle.jresolution.specs.jprogram.ProgramClasses.{Program}
use Rattle.jsemantics.specs.declared.jmachine.plan.Plan.{Plan}
use Rattle.jsemantics.specs.jmachine.MachineStates.{NoStep, State}
use Rattle.jsemantics.specs.jmachine.AccessQueries.{Inherits, run_asks}
use Rattle.jsemantics.specs.jmachine.Security.{Rules}
use Rattle.jsemantics.specs.jmachine.InstructionSites.{Site}
use Rattle.jsemantics.specs.jmachine.Store.{Store}
use Rattle.jruntime.specs.declared.jstate.shapes.Shapes.{Shapes}
use Rattle.jruntime.specs.jstate.FrameLists.{Framed}
use Rattle.jruntime.specs.jstate.HeapMeanings.{Things, store_by}
use Rattle.jlibcalls.specs.declared.jthreading.making.Given.{Given}
use Rattle.jlibcalls.specs.jthreading.ThreadConstructors.{IsGiven, IsNotGiven}
use Rattle.jlibcalls.specs.jthreading.ThreadMethods.{thread_called}

-- A constructor asks what its thread inherits, with the context that it was given,
abbrev pub InitAsks : Type 0
InitAsks = (own side : Side) (at : Site) (p : Program) (shapes : Shapes) (things : Things) (constants : List (List ℕ × ℕ)) (h : Heaped)
    (values : List (Value ℕ)) (x : Given) → IsGiven side values h x
    → run_asks own at (store_by p shapes things constants h) (calls.Thread (threads.Init side)) values ≡ Some (Inherits x.context)

-- and nothing with other operands.
abbrev pub InitAsksNothing : Type 0
InitAsksNothing = (own side : Side) (at : Site) (p : Program) (shapes : Shapes) (things : Things) (constants : List (List ℕ × ℕ)) (h : Heaped)
    (values : List (Value ℕ)) → IsNotGiven side values h
    → run_asks own at (store_by p shapes things constants h) (calls.Thread (threads.Init side)) values ≡ None

-- Then there is no step, whatever the rules are.
abbrev pub InitIsStuck : Type 0 → Type 0
InitIsStuck E = (r : Rules ℕ E) (p : Program) (plan : Plan) (s : State ℕ E) (f : Framed E) (count : ℕ) (side : Side)
    (shapes : Shapes) (things : Things) (constants : List (List ℕ × ℕ)) (h : Heaped) → s.store ≡ store_by p shapes things constants h
    → IsNotGiven side (take count f.newest.operands) h → thread_called r p plan s f count (threads.Init side) ≡ NoStep

-- no constructor
abbrev pub IsNoInit : ThreadCall → Type 0
IsNoInit threads.Start = ⊤
IsNoInit threads.Join = ⊤
IsNoInit threads.Yield = ⊤
IsNoInit (threads.Init side) = ⊥

-- The other calls ask nothing.
abbrev pub OthersAskNothing : Type 0
OthersAskNothing = (own : Side) (at : Site) (s : Store ℕ) (call : ThreadCall) (values : List (Value ℕ)) → IsNoInit call
    → run_asks own at s (calls.Thread call) values ≡ None
