-- What a step comes to that returns from a method (JVMS 6.5: ireturn, lreturn, areturn, return).
use Rattle.std.specs.Prelude.{◌≡◌, ⊤, ℕ, List, [], Some, false}
use Rattle.jvalues.specs.declared.jnames.kinds.Kind.{Kind}
use Rattle.jvalues.specs.declared.jnames.kinds.Kind.TheVariants as kinds
use Rattle.jmemory.specs.jheap.Heaps.{Heaped}
use Rattle.jparts.specs.declared.jcode.names.Returned.{Returned}
use Rattle.jparts.specs.declared.jcode.names.Returned.TheVariants as results
use Rattle.jvalues.specs.declared.jops.value.Value.{Value}
use Rattle.jresolution.specs.jprogram.ProgramClasses.{Program}
use Rattle.jresolution.specs.juses.IndexedInstructions.{Return}
use Rattle.jsemantics.specs.declared.jmachine.plan.Plan.{Plan}
use Rattle.jsemantics.specs.jmachine.MachineStates.{Outcome, NoStep, State}
use Rattle.jsemantics.specs.jmachine.Security.{Rules}
use Rattle.jsemantics.specs.jmachine.MachineSteps.{executed, left, went}
use Rattle.jsemantics.specs.jmachine.ThreadTurns.{ended}
use Rattle.jruntime.specs.jstate.FrameLists.{Framed, all}
use Rattle.jruntime.specs.declared.jstate.shapes.Shapes.{Shapes}
use Rattle.jruntime.specs.jstate.HeapMeanings.{Things, store_by}
use Rattle.jrows.specs.declared.jcalls.ready.Counts.{Counts}
use Rattle.jrows.specs.declared.jcalls.returns.Leaving.{Leaving}
use Rattle.jrows.specs.declared.jcalls.returns.Leaving.TheVariants as ways
use Rattle.jrows.specs.jcalls.FrameMarks.{AreStanding, marks_of}
use Rattle.jrows.specs.jcalls.Readiness.{AreCounted}

-- the kinds of numbers
abbrev pub IsNumber : Kind → Type 0
IsNumber kinds.Int = ⊤
IsNumber kinds.Long = ⊤
IsNumber kind = ⊥

-- the thread goes on with these frames, or has ended, or is stuck
abbrev pub LeftAs : {E : Type 0} → Rules ℕ E → Program → Plan → State ℕ E → Leaving → Framed E → Outcome (State ℕ E) → Type 0
LeftAs r p plan s ways.Resumed g outcome = outcome ≡ went r p plan s (all g) s.store []
LeftAs r p plan s ways.Ends g outcome = outcome ≡ ended plan.schedule s s.store false []
LeftAs r p plan s ways.Stuck g outcome = outcome ≡ NoStep

-- The newest frame left with these values, as the machine's definition has it.
abbrev pub Leaves : {E : Type 0} → List (Value ℕ) → List E → Framed E → Leaving → Framed E → Type 0
Leaves {E} values marks f way g = (r : Rules ℕ E) (p : Program) (plan : Plan) (s : State ℕ E)
    → marks ≡ marks_of r.entry_of p → LeftAs r p plan s way g (left r p plan s f.below s.store values)

-- A return of a kind did what a step does that executes it, whatever the rules and the state are: `marks` are what the rules give to frames
-- of each class.
abbrev pub Returns : {E : Type 0} → Returned → List E → Framed E → Leaving → Framed E → Type 0
Returns {E} kind marks f way g = (r : Rules ℕ E) (p : Program) (plan : Plan) (s : State ℕ E)
    → marks ≡ marks_of r.entry_of p → LeftAs r p plan s way g (executed r p plan s f.newest f.below (Some (Return kind)))

-- A return of a reference did so, where these are the objects of the heap.
abbrev pub ReturnsRef : {E : Type 0} → Heaped → Counts → List E → Framed E → Leaving → Framed E → Type 0
ReturnsRef {E} h counts marks f way g =
    (r : Rules ℕ E) (p : Program) (plan : Plan) (s : State ℕ E) (shapes : Shapes) (things : Things) (constants : List (List ℕ × ℕ))
    → marks ≡ marks_of r.entry_of p → s.store ≡ store_by p shapes things constants h → AreCounted counts things
    → LeftAs r p plan s way g (executed r p plan s f.newest f.below (Some (Return results.Ref)))

-- What a return leaves stands between steps where what it found did.
abbrev pub StaysStanding : {E : Type 0} → Framed E → Framed E → Type 0
StaysStanding f g = (classes : ℕ) → AreStanding classes f → AreStanding classes g
