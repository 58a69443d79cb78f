-- What a step comes to that takes a snapshot of what is kept (class documentation of AccessController: getContext).
use Rattle.std.specs.Prelude.{◌≡◌, ◌+◌, ℕ, Bool, true, false, List, [], length, take, Option, Some}
use Rattle.jvalues.specs.declared.jops.value.Value.{Value}
use Rattle.jmemory.specs.jheap.Heaps.{Heaped}
use Rattle.joutput.specs.declared.jtrace.event.End.TheVariants.{HeapFull}
use Rattle.jresolution.specs.jprogram.ProgramClasses.{Program}
use Rattle.jsemantics.specs.declared.jmachine.plan.Plan.{Plan}
use Rattle.jsemantics.specs.jmachine.MachineStates.{Outcome, Over, Row, State, two}
use Rattle.jsemantics.specs.jmachine.AccessCallRows.{context_made}
use Rattle.jsemantics.specs.jmachine.HeapObjects.{Context}
use Rattle.jsemantics.specs.jmachine.Security.{Rules}
use Rattle.jsemantics.specs.jmachine.MachineSteps.{went}
use Rattle.jsemantics.specs.jmachine.Store.{Store, paid, with_made}
use Rattle.jruntime.specs.jstate.FrameLists.{Framed, all}
use Rattle.jruntime.specs.declared.jstate.shapes.Shapes.{Shapes}
use Rattle.jruntime.specs.jstate.HeapMeanings.{Things, place_in, store_by}
use Rattle.jrows.specs.jcalls.MethodCalls.{stepped}
use Rattle.jlibcalls.specs.jcontexts.KeptContexts.{AreKept, with_kept}

-- The thread goes on with these frames, or the cells for the context aren't there, and the run is over.
abbrev pub SnappedAs : {E : Type 0} → Rules ℕ E → Program → Plan → State ℕ E → Bool → Framed E → Store ℕ → Outcome (State ℕ E) → Type 0
SnappedAs r p plan s true g store outcome = outcome ≡ went r p plan s (all g) store []
SnappedAs r p plan s false g store outcome = outcome ≡ Over s [] HeapFull

-- An AccessControlContext was made with this number of what is kept, if there was room, where so many operands of the call were there and
-- these numbers were kept, and these frames, numbers and heap were left: the step is the one whose row makes it.
abbrev pub Snapshots : {E : Type 0} → (number count : ℕ) → Framed E → List ℕ → Heaped → Bool → Framed E → List ℕ → Heaped → Type 0
Snapshots {E} number count f before h room g after k = (r : Rules ℕ E) (p : Program) (plan : Plan) (s : State ℕ E)
    (shapes : Shapes) (things : Things) (constants : List (List ℕ × ℕ)) (row : List (Value ℕ) → Option (Row ℕ E))
    → s.store ≡ store_by p shapes things constants h → things.kept ≡ before → AreKept p shapes things h.objects
    → row (take count f.newest.operands) ≡ Some (context_made s.store number)
    → SnappedAs r p plan s room g (store_by p shapes (with_kept after things) constants k) (stepped r p plan s f count row)

-- An AccessControlContext was made that holds a place, and this is its number.
pub record MakesContext (place : ℕ) (h : Heaped) (o : ℕ) (k : Heaped) : Type 0 where
  pub number : o ≡ length h.objects + 1
  pub store : (p : Program) (shapes : Shapes) (things : Things) (constants : List (List ℕ × ℕ))
      → store_by p shapes things constants k ≡ paid two (with_made (store_by p shapes things constants h) (Context (place_in things.kept place)))
