-- What a step by number came to, whatever the rules are that it runs under.
use Rattle.std.specs.Prelude.{◌≡◌, ◌≤◌, ⊤, ℕ, true, false, List, [], ◌∷◌, length, map, take, Option, Some, None}
use Rattle.jmemory.specs.declared.jheap.cell.Kind.TheVariants as kinds
use Rattle.jmemory.specs.jheap.Heaps.{Heaped, Object, kind_at}
use Rattle.jparts.specs.declared.jcode.names.Returned.{Returned}
use Rattle.jlib.specs.declared.calls.LibCall.{LibCall}
use Rattle.jlib.specs.declared.classes.LibClass.TheVariants as lib
use Rattle.jlib.specs.declared.classes.Thrown.{Thrown as ThrownClass}
use Rattle.jtypes.specs.declared.vtype.VType.{VType}
use Rattle.jtypes.specs.declared.vtype.VType.TheVariants as types
use Rattle.joutput.specs.declared.jtrace.event.Event.{Event}
use Rattle.joutput.specs.declared.jtrace.event.Event.TheVariants.{Throw, Uncaught}
use Rattle.joutput.specs.declared.jtrace.event.End.TheVariants.{HeapFull}
use Rattle.jresolution.specs.declared.jprogram.part.ClassRef.{ClassRef}
use Rattle.jresolution.specs.jprogram.ProgramClasses.{Program}
use Rattle.jresolution.specs.declared.juses.meaning.InvokeKind.{InvokeKind}
use Rattle.jresolution.specs.declared.juses.meaning.Span.{Span}
use Rattle.jresolution.specs.juses.IndexedInstructions.{Instruction, Return, Used, instruction_at}
use Rattle.jresolution.specs.juses.InstructionMeanings as meanings
use Rattle.jresolution.specs.juses.InstructionMeanings.{CallMeaning, spanned}
use Rattle.jresolution.specs.juses.PoolTables.{pool_at}
use Rattle.jresolution.specs.juses.InternedTypes.{class_named, named}
use Rattle.jsemantics.specs.declared.jmachine.plan.Plan.{Plan}
use Rattle.jsemantics.specs.jmachine.MachineStates.{NoStep, Outcome, Over, State}
use Rattle.jsemantics.specs.jmachine.AccessQueries.{Ask, asked_by, asks, run_asks}
use Rattle.jsemantics.specs.jmachine.CallTargets.{Runs, Target, target}
use Rattle.jsemantics.specs.jmachine.InstructionActions.{run}
use Rattle.jsemantics.specs.jmachine.Security.{Rules}
use Rattle.jsemantics.specs.jmachine.MachineSteps.{entries, executed, own_fields, site, step, thrown_at, went}
use Rattle.jsemantics.specs.jmachine.Store.{Store}
use Rattle.jsemantics.specs.jmachine.ThreadTurns.{ended, thread_of}
use Rattle.jsemantics.specs.jmachine.Unwinding.{told_name}
use Rattle.jready.specs.declared.instr.FlowInstr.{FlowInstr}
use Rattle.jready.specs.declared.instr.FlowInstr.TheVariants as flow
use Rattle.jready.specs.declared.instr.Instr.{Instr}
use Rattle.jready.specs.declared.instr.Instr.TheVariants as instr
use Rattle.jready.specs.DecodedInstructions.{call_form}
use Rattle.jruntime.specs.declared.jstate.shapes.Shapes.{Shapes}
use Rattle.jruntime.specs.jstate.FrameLists.{Framed, all}
use Rattle.jruntime.specs.jstate.HeapMeanings.{Things, store_by}
use Rattle.jrows.specs.declared.jacts.way.Way.{Way}
use Rattle.jrows.specs.declared.jacts.way.Way.TheVariants as ways
use Rattle.jrows.specs.jacts.RowOutcomes.{leaves}
use Rattle.jrows.specs.declared.jcalls.calls.Called.{Called}
use Rattle.jrows.specs.declared.jcalls.calls.Called.TheVariants as calls
use Rattle.jrows.specs.declared.jcalls.raising.Raised.{Raised}
use Rattle.jrows.specs.declared.jcalls.raising.Raised.TheVariants as raised
use Rattle.jrows.specs.declared.jcalls.ready.Counts.{Counts}
use Rattle.jrows.specs.declared.jcalls.returns.Leaving.{Leaving}
use Rattle.jrows.specs.declared.jcalls.returns.Leaving.TheVariants as leaving
use Rattle.jrows.specs.jcalls.MethodCalls.{Came, CalledAs, IsThrown, Takes, stepped}
use Rattle.jrows.specs.jcalls.FrameMarks.{AreStanding, Stand, marks_of}
use Rattle.jrows.specs.jcalls.Readiness.{AreCounted}
use Rattle.jrows.specs.jcalls.Returns.{LeftAs}
use Rattle.jrows.specs.jcalls.Throws.{raising}
use Rattle.jserving.specs.jcells.ObjectEquivalence.{StayAlike}
use Rattle.jserving.specs.jcells.ArrayTypeNumbers.{AreRows}
use Rattle.jstepping.specs.declared.jstep.run_tables.RunTables.{RunTables}
use Rattle.jstepping.specs.declared.jstep.outcomes.Stepped.{Stepped}
use Rattle.jstepping.specs.declared.jstep.outcomes.Stepped.TheVariants as steps
use Rattle.jstepping.specs.jstep.RowSuccessors.{behind}
use Rattle.jstepping.specs.jstep.InstructionRows.{IsHere, IsRaising}

-- ---- what stands while a program runs

-- It is that of the program.
pub record IsFixed {E : Type 0} (p : Program) (x : RunTables E) : Type 0 where
  pub ready : x.ready.now.program ≡ p
  pub tables : x.tables.now ≡ x.ready.now.methods.tables
  pub ancestors : x.ancestors.now ≡ p
  pub marks : length x.marks.now ≡ length p.parts
  pub numbers : AreRows x.shapes.now x.numbers

-- ---- what is told

-- the type of an object of a class
abbrev pub type_of : Program → ClassRef → VType
type_of p class = types.Object (class_named p class)

-- what is told where what is thrown is handled
abbrev pub told_of : {E : Type 0} → State ℕ E → VType → List Event
told_of s type = Throw (thread_of s) (told_name type) ∷ []

-- where none handles it
abbrev pub told_last : {E : Type 0} → State ℕ E → VType → List Event
told_last s type = Throw (thread_of s) (told_name type) ∷ Uncaught (thread_of s) (told_name type) ∷ []

-- ---- what a step came to

-- what a call of the library comes to, with so many operands
abbrev pub asking : {E : Type 0} → Rules ℕ E → Program → Plan → State ℕ E → Framed E → ℕ → LibCall → Outcome (State ℕ E)
asking r p plan s f count call =
    stepped r p plan s f count
    (run r (site r p plan s f.newest f.below) (own_fields p f.newest.method) s.store (entries r p plan s (all f)) s.running.inherited call)

-- The thread goes on with these frames and this store, or has ended, or nothing has changed: the library is to be asked, or the run is
-- over, or there is no step.
abbrev pub SteppedAs : {E : Type 0} → Rules ℕ E → Program → Plan → State ℕ E → Stepped → Framed E → Store ℕ → Outcome (State ℕ E) → Type 0
SteppedAs r p plan s steps.Went g t outcome = outcome ≡ went r p plan s (all g) t []
SteppedAs r p plan s steps.Ended g t outcome = outcome ≡ ended plan.schedule s t false []
SteppedAs r p plan s (steps.Handled class) g t outcome = outcome ≡ went r p plan s (all g) t (told_of s (type_of p class))
SteppedAs r p plan s (steps.Uncaught class) g t outcome = outcome ≡ ended plan.schedule s t true (told_last s (type_of p class))
SteppedAs r p plan s (steps.Asks call count) g t outcome =
    (all g ≡ s.running.frames) × (t ≡ s.store) × (outcome ≡ asking r p plan s g count call)
SteppedAs r p plan s steps.Full g t outcome = outcome ≡ Over s [] HeapFull
SteppedAs r p plan s steps.Stuck g t outcome = outcome ≡ NoStep

-- What a step at these frames asks of access control: nothing, but where the library is to be asked, what that member of it asks.
abbrev pub AsksAs : {E : Type 0} → Rules ℕ E → Program → Plan → State ℕ E → Framed E → Stepped → Option (Ask ℕ) → Type 0
AsksAs r p plan s f (steps.Asks call count) asked =
    asked ≡ run_asks r.side (site r p plan s f.newest f.below) s.store call (take count f.newest.operands)
AsksAs r p plan s f done asked = asked ≡ None

-- An instruction is a call, so many operands of the newest frame serve for it, and it comes to this member of the library.
pub record CallsLibrary {E : Type 0} (r : Rules ℕ E) (p : Program) (plan : Plan) (s : State ℕ E) (f : Framed E) (call : LibCall) (count : ℕ)
    (it : Option Instruction) : Type 0 where
  pub by : InvokeKind
  pub called : CallMeaning
  pub is : it ≡ Some (Used (meanings.Call by called))
  pub takes : Takes p s by called count f
  pub comes : target (site r p plan s f.newest f.below) s.store by called (take count f.newest.operands) ≡ Some (Runs call)

-- So it is where the library is to be asked.
abbrev pub ReachesAs : {E : Type 0} → Rules ℕ E → Program → Plan → State ℕ E → Framed E → Stepped → Option Instruction → Type 0
ReachesAs r p plan s f (steps.Asks call count) it = CallsLibrary r p plan s f call count it
ReachesAs r p plan s f done it = ⊤

-- A step at the frames `f` whose outcome, whose ask and whose instruction these are came to this, and has left the frames `g` and a store.
pub record CameTo {E : Type 0} (r : Rules ℕ E) (p : Program) (plan : Plan) (s : State ℕ E) (f : Framed E) (done : Stepped) (g : Framed E)
    (t : Store ℕ)
    (o : Outcome (State ℕ E)) (a : Option (Ask ℕ)) (it : Option Instruction) : Type 0 where
  pub outcome : SteppedAs r p plan s done g t o
  pub asked : AsksAs r p plan s f done a
  pub reached : ReachesAs r p plan s f done it

-- It doesn't ask the library.
abbrev pub IsQuiet : Stepped → Type 0
IsQuiet (steps.Asks call count) = ⊥
IsQuiet done = ⊤

-- What made the same of the objects that were as these things makes the same of those that are, but where there is no step.
abbrev pub StepsAlike : Program → Shapes → Things → Stepped → (before after : List Object) → Type 0
StepsAlike p shapes things steps.Stuck before after = ⊤
StepsAlike p shapes things done before after = StayAlike p shapes things before after

-- Where the thread goes on its frames stand, and the operands of a call of the library are there.
abbrev pub StoodAs : {E : Type 0} → (classes : ℕ) → Stepped → Framed E → Type 0
StoodAs classes steps.Went g = AreStanding classes g
StoodAs classes (steps.Handled class) g = AreStanding classes g
StoodAs classes (steps.Asks call count) g = Stand classes (all g) × (count ≤ length g.newest.operands)
StoodAs classes done g = ⊤

-- ---- behind what was done

-- what a step came to that raised or threw an object of a class
abbrev pub stepped_as : Raised → ClassRef → Stepped
stepped_as raised.Full class = steps.Full
stepped_as raised.Handled class = steps.Handled class
stepped_as raised.Uncaught class = steps.Uncaught class

-- what it came to by what a return came to
abbrev pub left_as : Leaving → Stepped
left_as leaving.Resumed = steps.Went
left_as leaving.Ends = steps.Ended
left_as leaving.Stuck = steps.Stuck

-- An exception of a class was raised in these frames, and the step came to what the machine's definition has for that. `marks` are what
-- the rules give to frames of each class.
abbrev pub RaisesAs : {E : Type 0} → List E → Program → ThrownClass → Framed E → Heaped → Stepped → Framed E → Heaped → Type 0
RaisesAs {E} marks p class f h done g k =
    (r : Rules ℕ E) (plan : Plan) (s : State ℕ E) (shapes : Shapes) (things : Things) (constants : List (List ℕ × ℕ))
    → marks ≡ marks_of r.entry_of p → s.store ≡ store_by p shapes things constants h
    → SteppedAs r p plan s done g (store_by p shapes things constants k) (raising r p plan s (all f) [] (lib.Thrown class))

-- So did the object of a number that was thrown, which is no array.
abbrev pub ThrowsAs : {E : Type 0} → List E → Program → ℕ → Framed E → Heaped → Stepped → Framed E → Type 0
ThrowsAs {E} marks p n f h done g =
    (r : Rules ℕ E) (plan : Plan) (s : State ℕ E) (shapes : Shapes) (things : Things) (constants : List (List ℕ × ℕ))
    → marks ≡ marks_of r.entry_of p → s.store ≡ store_by p shapes things constants h → ((a : ℕ) → kind_at h n ≡ Some (kinds.Array a) → ⊥)
    → SteppedAs r p plan s done g s.store (thrown_at r p plan s (all f) s.store [] n)

-- What a row left to do, behind these frames and this heap, was done. What raises has left the store as it was.
abbrev pub Settles : {E : Type 0} → List E → Program → Way → Framed E → Heaped → Stepped → Framed E → Heaped → Type 0
Settles {E} marks p way f h done g k =
    (r : Rules ℕ E) (plan : Plan) (s : State ℕ E) (shapes : Shapes) (things : Things) (constants : List (List ℕ × ℕ))
    → marks ≡ marks_of r.entry_of p → (IsRaising way → s.store ≡ store_by p shapes things constants h)
    → SteppedAs r p plan s done g (store_by p shapes things constants k)
    (behind r p plan s f.below way (leaves way [] f.newest (store_by p shapes things constants h)))

-- a row without a step leads to none
abbrev pub StaysStuck : Way → Stepped → Type 0
StaysStuck ways.Stuck done = done ≡ steps.Stuck
StaysStuck way done = ⊤

-- the frames that a row left stand as they are to
abbrev pub StandsFor : {E : Type 0} → (classes : ℕ) → Way → Framed E → Type 0
StandsFor classes ways.Went f = AreStanding classes f
StandsFor classes (ways.Raises class) f = Stand classes (all f)
StandsFor classes way f = ⊤

-- what a call of so many operands raised can be thrown, and where the library is to run they are there
abbrev pub CallLeft : {E : Type 0} → Called → (count : ℕ) → Framed E → Type 0
CallLeft (calls.Raises class) count f = IsThrown class
CallLeft (calls.Runs call) count f = count ≤ length f.newest.operands
CallLeft way count f = ⊤

-- Where the library is to be asked, a call of so many operands has reached that member of it.
abbrev pub RunsAs : Stepped → (count : ℕ) → Option Target → Type 0
RunsAs (steps.Asks call n) count reached = (n ≡ count) × (reached ≡ Some (Runs call))
RunsAs done count reached = ⊤

-- So a step came to what a call of so many operands at the frames `f` came to.
pub record CallCameTo {E : Type 0} (r : Rules ℕ E) (p : Program) (plan : Plan) (s : State ℕ E) (f : Framed E) (count : ℕ) (done : Stepped)
    (g : Framed E)
    (t : Store ℕ) (came : Came E) : Type 0 where
  pub outcome : SteppedAs r p plan s done g t came.outcome
  pub asked : AsksAs r p plan s f done came.asked
  pub reached : RunsAs done count came.reached

-- What a call of so many operands came to, which found these frames and this heap, was done.
abbrev pub SettlesCall : {E : Type 0} → List E → Program → Called → (count : ℕ) → Framed E → Heaped → Stepped → Framed E → Heaped → Type 0
SettlesCall {E} marks p way count f h done g k =
    (r : Rules ℕ E) (plan : Plan) (s : State ℕ E) (shapes : Shapes) (things : Things) (constants : List (List ℕ × ℕ)) (e : Framed E)
    (came : Came E)
    → marks ≡ marks_of r.entry_of p → s.running.frames ≡ all e → s.store ≡ store_by p shapes things constants h
    → CalledAs r p plan s count e way f came → CallCameTo r p plan s e count done g (store_by p shapes things constants k) came

-- A return of a kind did what a step does that executes it, where these are the objects of the heap.
abbrev pub ReturnsAs : {E : Type 0} → Returned → Heaped → Counts → List E → Framed E → Leaving → Framed E → Type 0
ReturnsAs {E} kind h counts marks f way g =
    (r : Rules ℕ E) (p : Program) (plan : Plan) (s : State ℕ E) (shapes : Shapes) (things : Things) (constants : List (List ℕ × ℕ))
    → marks ≡ marks_of r.entry_of p → s.store ≡ store_by p shapes things constants h → AreCounted counts things
    → LeftAs r p plan s way g (executed r p plan s f.newest f.below (Some (Return kind)))

-- ---- a step

-- A step by number came to what executing an instruction comes to, where the frames and the store are the running thread's.
abbrev pub Executes : {E : Type 0} → Program → RunTables E → Counts → Option Instruction → Framed E → Heaped → Stepped → Framed E → Heaped → Type 0
Executes {E} p x counts it f h done g k =
    (r : Rules ℕ E) (plan : Plan) (s : State ℕ E) (things : Things) (constants : List (List ℕ × ℕ))
    → x.marks.now ≡ marks_of r.entry_of p → plan.depth ≡ x.depth → AreCounted counts things → s.running.frames ≡ all f
    → s.store ≡ store_by p x.shapes.now things constants h
    → CameTo r p plan s f done g (store_by p x.shapes.now things constants k)
    (executed r p plan s f.newest f.below it) (asked_by r.side p plan s f.newest f.below it) it

-- It executed the call that the entry at an index of the pool of the newest frame's class means.
abbrev pub ExecutesCall : {E : Type 0} → Program → RunTables E → Counts → InvokeKind → (pool : ℕ) → Span → Framed E → Heaped → Stepped → Framed E
    → Heaped → Type 0
ExecutesCall p x counts by pool params f h done g k =
    (c : CallMeaning) → meanings.meant p (pool_at p f.newest.method.class) (call_form by pool) ≡ Some (meanings.Call by c)
    → c.params ≡ map (named p) (spanned x.ready.now.uses.types params) → Executes p x counts (Some (Used (meanings.Call by c))) f h done g k

-- It came to what the machine's step comes to, and asks what that asks.
abbrev pub Steps : {E : Type 0} → Program → RunTables E → Counts → Framed E → Heaped → Stepped → Framed E → Heaped → Type 0
Steps {E} p x counts f h done g k =
    (r : Rules ℕ E) (plan : Plan) (s : State ℕ E) (things : Things) (constants : List (List ℕ × ℕ))
    → x.marks.now ≡ marks_of r.entry_of p → plan.depth ≡ x.depth → AreCounted counts things → s.running.frames ≡ all f
    → s.store ≡ store_by p x.shapes.now things constants h
    → CameTo r p plan s f done g (store_by p x.shapes.now things constants k)
    (step r p plan s) (asks r.side p plan s) (instruction_at p f.newest.method f.newest.place)

-- ---- instructions that are here

abbrev pub IsFlowStep : FlowInstr → Type 0
IsFlowStep (flow.Return kind) = ⊤
IsFlowStep flow.Throw = ⊤
IsFlowStep f = IsHere (instr.Flow f)

-- one of those with a row, a return, a throw or a call
abbrev pub IsStep : Instr → Type 0
IsStep instr.Off = ⊤
IsStep (instr.Flow f) = IsFlowStep f
IsStep (instr.Call by pool params method) = ⊤
IsStep (instr.Library by pool params call) = ⊤
IsStep one = IsHere one
