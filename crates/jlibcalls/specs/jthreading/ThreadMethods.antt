-- What a step comes to that calls a method of Thread.
use Rattle.std.specs.Prelude.{◌≡◌, ◌≤◌, ◌<◌, ◌+◌, ◌^◌, ℕ, List, [], length, Some}
use Rattle.jmemory.specs.jheap.Heaps.{Heaped}
use Rattle.jlib.specs.declared.calls.LibCall.TheVariants as calls
use Rattle.jlib.specs.declared.calls.ThreadCall.{ThreadCall}
use Rattle.jlib.specs.declared.classes.LibClass.TheVariants as lib
use Rattle.jresolution.specs.jprogram.ProgramClasses.{Program}
use Rattle.jsemantics.specs.declared.jmachine.plan.Plan.{Plan}
use Rattle.jsemantics.specs.jmachine.MachineStates.{NoStep, Outcome, State, Went}
use Rattle.jsemantics.specs.jmachine.InstructionActions.{run}
use Rattle.jsemantics.specs.jmachine.Security.{Rules}
use Rattle.jsemantics.specs.jmachine.MachineSteps.{entries, own_fields, site}
use Rattle.jsemantics.specs.jmachine.Store.{Store}
use Rattle.jruntime.specs.declared.jstate.shapes.Shapes.{Shapes}
use Rattle.jruntime.specs.jstate.FrameLists.{Framed, all}
use Rattle.jruntime.specs.jstate.HeapMeanings.{Things, store_by}
use Rattle.jrows.specs.jcalls.MethodCalls.{stepped}
use Rattle.jrows.specs.jcalls.Throws.{raising}
use Rattle.jruntime.specs.declared.jguests.guests.Guests.{Guests}
use Rattle.jruntime.specs.jguests.GuestThreads.{state_by, with_frames}
use Rattle.jruntime.specs.jguests.TurnOutcomes.{outcome_of}
use Rattle.jlibcalls.specs.declared.jthreading.switching.Threaded.{Threaded}
use Rattle.jlibcalls.specs.declared.jthreading.switching.Threaded.TheVariants as threaded

-- The thread goes on, or has given up its turn, or an exception is to be raised in its frames; else there is no step.
abbrev pub CameTo : {E : Type 0} → Rules ℕ E → Program → Plan → Guests E → Store ℕ → Threaded → Guests E → Outcome (State ℕ E) → Type 0
CameTo r p plan g store threaded.Went h o = o ≡ Went (state_by h store) []
CameTo r p plan g store (threaded.Turned done) h o = o ≡ outcome_of done h store []
CameTo {E} r p plan g store (threaded.Raises class) h o =
    (f : Framed E) × (h ≡ with_frames (Some f) g) × (o ≡ raising r p plan (state_by g store) (all f) [] (lib.Thrown class))
CameTo r p plan g store threaded.Stuck h o = o ≡ NoStep

-- what a step comes to that calls a method of Thread with so many operands
abbrev pub thread_called : {E : Type 0} → Rules ℕ E → Program → Plan → State ℕ E → Framed E → ℕ → ThreadCall → Outcome (State ℕ E)
thread_called r p plan s f count call =
    stepped r p plan s f count
    (run r (site r p plan s f.newest f.below) (own_fields p f.newest.method) s.store (entries r p plan s (all f)) s.running.inherited
    (calls.Thread call))

-- A call of Thread did so, whatever the rules are and the store is that the heap stands for.
abbrev pub CallsThread : {E : Type 0} → ThreadCall → ℕ → List ℕ → Heaped → Guests E → Threaded → Guests E → Type 0
CallsThread {E} call count schedule heap g done h =
    (r : Rules ℕ E) (p : Program) (plan : Plan) (shapes : Shapes) (things : Things) (constants : List (List ℕ × ℕ)) (f : Framed E)
    → g.running.frames ≡ Some f → plan.schedule ≡ schedule → let store = store_by p shapes things constants heap in
    CameTo r p plan g store done h (thread_called r p plan (state_by g store) f count call)

-- The running thread has frames, which hold so many operands and may go on behind their call.
pub record MayCall {E : Type 0} (count : ℕ) (g : Guests E) : Type 0 where
  pub frames : Framed E
  pub runs : g.running.frames ≡ Some frames
  pub few : count ≤ length frames.newest.operands
  pub place : frames.newest.place + 1 < 2 ^ 32
