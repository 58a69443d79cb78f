-- What a step comes to that calls the constructor of Thread.
use Rattle.std.specs.Prelude.{◌≡◌, ⊤, ℕ, ◌+◌, ◌++◌, List, [], ◌∷◌, Option, Some, None, slice_get, take}
use Rattle.jmemory.specs.jheap.Heaps as heaps
use Rattle.jmemory.specs.jheap.Heaps.{Heaped}
use Rattle.jlib.specs.declared.calls.ThreadCall.TheVariants as threads
use Rattle.jlib.specs.declared.side.Side.{Side}
use Rattle.jlib.specs.declared.side.Side.TheVariants.{Passing, Source}
use Rattle.jvalues.specs.declared.jops.value.Value.{Value}
use Rattle.jvalues.specs.declared.jops.value.Value.TheVariants.{Ref}
use Rattle.jresolution.specs.jprogram.ProgramClasses.{Program}
use Rattle.jsemantics.specs.declared.jmachine.plan.Plan.{Plan}
use Rattle.jsemantics.specs.jmachine.MachineStates.{Went}
use Rattle.jsemantics.specs.jmachine.Security.{Rules, handed}
use Rattle.jsemantics.specs.jmachine.MachineSteps.{entries}
use Rattle.jruntime.specs.declared.jstate.shapes.Shapes.{Shapes}
use Rattle.jruntime.specs.jstate.FrameLists.{Framed, all}
use Rattle.jruntime.specs.jstate.HeapMeanings.{Things, objects_by, store_by}
use Rattle.jruntime.specs.declared.jguests.guests.Guests.{Guests}
use Rattle.jruntime.specs.jguests.GuestThreads.{state_by}
use Rattle.jlibcalls.specs.declared.jthreading.making.Begun.{Begun}
use Rattle.jlibcalls.specs.declared.jthreading.making.Given.{Given}
use Rattle.jlibcalls.specs.jthreading.ThreadObjects.{thread_object}
use Rattle.jlibcalls.specs.jthreading.ThreadMethods.{thread_called}

-- the object that is a Thread, and the one whose `run` it begins with, as operands, the newest first
abbrev pub begun_values : Begun → List (Value ℕ)
begun_values b = Ref b.runnable ∷ Ref b.thread ∷ []

-- What stands behind so many operands, where the object is a Thread; else either isn't a reference, or the object is no Thread.
pub record IsBegun {E : Type 0} (first : ℕ) (f : Framed E) (h : Heaped) (b : Begun) : Type 0 where
  pub runnable : slice_get f.newest.operands first ≡ Some (Ref b.runnable)
  pub named : slice_get f.newest.operands (first + 1) ≡ Some (Ref b.thread)
  pub thread : thread_object h (Ref b.thread) ≡ Some b.thread

abbrev pub NamedBehind : {E : Type 0} → (first : ℕ) → Guests E → Heaped → Option Begun → Type 0
NamedBehind {E} first g h None = (f : Framed E) → g.running.frames ≡ Some f → (b : Begun) → IsBegun first f h b → ⊥
NamedBehind {E} first g h (Some b) = (f : Framed E) → g.running.frames ≡ Some f → IsBegun first f h b

-- ---- what a constructor is given

-- A context is handed on the passing side alone.
abbrev pub IsHanded : Side → Option ℕ → Type 0
IsHanded Source None = ⊤
IsHanded Passing (Some k) = ⊤
IsHanded side context = ⊥

-- These are the operands of a call of the constructor, of which the object is a Thread.
pub record IsGiven (side : Side) (operands : List (Value ℕ)) (h : Heaped) (x : Given) : Type 0 where
  pub context : IsHanded side x.context
  pub values : operands ≡ handed side x.context ++ begun_values x.begun
  pub thread : thread_object h (Ref x.begun.thread) ≡ Some x.begun.thread

-- nothing that the constructor could be given
abbrev pub IsNotGiven : Side → List (Value ℕ) → Heaped → Type 0
IsNotGiven side values h = (x : Given) → IsGiven side values h x → ⊥

-- what the newest of these frames gives with so many operands
abbrev pub Named : {E : Type 0} → Side → (count : ℕ) → Guests E → Heaped → Option Given → Type 0
Named {E} side count g h None = (f : Framed E) → g.running.frames ≡ Some f → IsNotGiven side (take count f.newest.operands) h
Named {E} side count g h (Some x) = (f : Framed E) → g.running.frames ≡ Some f → IsGiven side (take count f.newest.operands) h x

-- The constructor made a thread, which keeps what rules say that it inherits, whatever the rules are and the store is that the heap stands
-- for.
abbrev pub MakesThread : {E : Type 0} → (kept count : ℕ) → Given → Guests E → Heaped → Guests E → Heaped → Type 0
MakesThread {E} kept count x g heap h after =
    (r : Rules ℕ E) (p : Program) (plan : Plan) (shapes : Shapes) (things : Things) (constants : List (List ℕ × ℕ)) (side : Side) (f : Framed E)
    → g.running.frames ≡ Some f → IsGiven side (take count f.newest.operands) heap x
    → let store = store_by p shapes things constants heap in let s = state_by g store in
    r.inherit x.context (entries r p plan s (all f)) s.running.inherited ≡ kept
    → thread_called r p plan s f count (threads.Init side) ≡ Went (state_by h (store_by p shapes things constants after)) []

-- The objects that are name no permission and no kept number that those before didn't: what made the same of those makes the same of these.
abbrev pub NamesNoMore : (before after : List heaps.Object) → Type 0
NamesNoMore before after = (p : Program) (shapes : Shapes) (things others : Things)
    → objects_by p shapes others before ≡ objects_by p shapes things before
    → objects_by p shapes others after ≡ objects_by p shapes things after
