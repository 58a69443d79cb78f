-- A quick try to make a step of a running thread: of which instructions it is made, and what it came to.
use Rattle.std.specs.Prelude.{◌≡◌, ◌≤◌, ◌<◌, ⊤, ℕ, zero, suc, Bool, true, false, [], List, length, Option, Some, None}
use Rattle.jmemory.specs.jheap.Heaps.{Heaped}
use Rattle.jresolution.specs.declared.jprogram.member.MethodId.{MethodId}
use Rattle.jresolution.specs.jprogram.ProgramClasses.{Program}
use Rattle.jready.specs.declared.instr.Instr.{Instr}
use Rattle.jruntime.specs.declared.jrun.came.Came.TheVariants as done
use Rattle.jruntime.specs.jstate.ObjectCells.{AreCelled}
use Rattle.jruntime.specs.jstate.FrameLists.{Framed}
use Rattle.jruntime.specs.jstate.HeapMeanings.{AreBuilt, Things}
use Rattle.jrows.specs.declared.jacts.way.Way.{Way}
use Rattle.jrows.specs.declared.jacts.way.Way.TheVariants as ways
use Rattle.jrows.specs.declared.jcalls.ready.Counts.{Counts}
use Rattle.jrows.specs.jcalls.FrameMarks.{AreStanding}
use Rattle.jrows.specs.jcalls.Readiness.{AreCounted}
use Rattle.jstepping.specs.jrefs.ReferenceRows as refs
use Rattle.jstepping.specs.declared.jstep.run_tables.RunTables.{RunTables}
use Rattle.jstepping.specs.declared.jstep.outcomes.Stepped.{Stepped}
use Rattle.jstepping.specs.declared.jstep.outcomes.Stepped.TheVariants as steps
use Rattle.jstepping.specs.jstep.InstructionRows as rows
use Rattle.jstepping.specs.jstep.StepRelation.{IsStep, StepsAlike, StoodAs}
use Rattle.jstepping.specs.declared.jcore.machine.Machine.{Machine}
use Rattle.jstepping.specs.jcore.MachineInvariants.{IsReady, StaysFixed}
use Rattle.jcalling.specs.declared.jexecute.hastening.Haste.{Haste}
use Rattle.jcalling.specs.declared.jexecute.hastening.Haste.TheVariants as haste
use Rattle.jcalling.specs.declared.jexecute.executing.Executed.{Executed}
use Rattle.jcalling.specs.declared.jexecute.hastening.Hasty.{Hasty}
use Rattle.jcalling.specs.declared.jexecute.hastening.Hurried.{Hurried}
use Rattle.jcalling.specs.declared.jexecute.hastening.Quick.{Quick}
use Rattle.jcalling.specs.declared.jexecute.hastening.Quick.TheVariants as tries
use Rattle.jcalling.specs.declared.jexecute.hastening.Turned.{Turned}
use Rattle.jcalling.specs.declared.jexecute.hastening.Turned.TheVariants as turns
use Rattle.jcalling.specs.declared.jexecute.hastening.Within.{Within}
use Rattle.jcalling.specs.jexecute.FrameSteps.{Advances, IsThere}
use Rattle.jcalling.specs.jexecute.ThreadSteps.{CameTo, Executes, HasRules, Moves}

-- ---- which instructions

-- which rows have it, if any do
abbrev pub IsQuickOf : Instr → Haste → Type 0
IsQuickOf one haste.Row = rows.IsHere one
IsQuickOf one haste.Reference = refs.IsHere one
IsQuickOf one haste.Turn = IsThere one × IsStep one
IsQuickOf one haste.None = ⊤

-- ---- what a row came to

-- It went on, or there is no step, or it has changed nothing and is left to be done.
abbrev pub quick_as : Way → Quick
quick_as ways.Went = tries.Went
quick_as ways.Stuck = tries.Stuck
quick_as way = tries.Left

-- A call or a return went on, or came to something else.
abbrev pub turned_as : Stepped → Turned
turned_as steps.Went = turns.On
turned_as came = turns.Came came

-- ---- a step of a thread

-- the program that is ready
abbrev pub program_of : {E : Type 0} → RunTables E → Program
program_of x = x.ready.now.program

-- A step of a thread came to this, and has left these frames and this heap.
pub record Makes {E : Type 0} (p : Program) (x : RunTables E) (counts : Counts) (f : Framed E) (h : Heaped) (came : Stepped) (g : Framed E)
    (k : Heaped) : Type 0 where
  pub row : (constants : List (List ℕ × ℕ)) → Advances p x counts constants f h came constants g k
  pub stands : StoodAs (length x.marks.now) came g
  pub alike : (things : Things) → AreCounted counts things → StepsAlike p x.shapes.now things came h.objects k.objects
  pub built : AreBuilt k.objects
  pub celled : AreCelled x.shapes.now k.objects

-- The step was made within its method, or there is none; or nothing has changed.
abbrev pub Hastens : {E : Type 0} → Program → RunTables E → Counts → Framed E → Heaped → Quick → Framed E → Heaped → Type 0
Hastens p x counts f h tries.Went g k = Makes p x counts f h steps.Went g k × (g.newest.method ≡ f.newest.method)
Hastens p x counts f h tries.Stuck g k = Makes p x counts f h steps.Stuck g k
Hastens p x counts f h tries.Left g k = (g ≡ f) × (k ≡ h)

-- The step was made by a call or a return, or it came to something else; or nothing has changed.
abbrev pub Turns : {E : Type 0} → Program → RunTables E → Counts → Framed E → Heaped → Turned → Framed E → Heaped → Type 0
Turns p x counts f h turns.On g k = Makes p x counts f h steps.Went g k
Turns p x counts f h (turns.Came came) g k = Makes p x counts f h came g k
Turns p x counts f h turns.Left g k = (g ≡ f) × (k ≡ h)

-- ---- some steps of a thread

-- So many that went on and told nothing led from frames and a heap to others.
unfoldable pub Quietly : {E : Type 0} → Program → RunTables E → Counts → ℕ → Framed E → Heaped → Framed E → Heaped → Type 0
Quietly p x counts zero f h g k = (g ≡ f) × (k ≡ h)
Quietly {E} p x counts (suc n) f h g k = (u : Framed E) × (v : Heaped) × Quietly p x counts n f h u v × Makes p x counts u v steps.Went g k

-- Behind them one came to this, where there is one; else nothing has changed.
abbrev pub EndsSo : {E : Type 0} → Program → RunTables E → Counts → Option Stepped → Framed E → Heaped → Framed E → Heaped → Type 0
EndsSo p x counts (Some came) f h g k = Makes p x counts f h came g k
EndsSo p x counts None f h g k = (g ≡ f) × (k ≡ h)

-- So many, and one more where there is one, are at most so many.
abbrev pub AreFew : {A : Type 0} → ℕ → ℕ → Option A → Type 0
AreFew most n (Some x) = n < most
AreFew most n None = n ≤ most

-- what says that there is no step
abbrev pub stuck_as : Bool → Option Stepped
stuck_as true = Some steps.Stuck
stuck_as false = None

-- So many went on within a method, of at most so many; behind them there is no step, where that is said, else nothing has changed.
pub record StayedWithin {E : Type 0} (p : Program) (x : RunTables E) (counts : Counts) (method : MethodId) (most : ℕ) (f : Framed E) (h : Heaped)
    (made : Within)
    (g : Framed E) (k : Heaped) : Type 0 where
  pub frames : Framed E
  pub heap : Heaped
  pub quiet : Quietly p x counts made.steps f h frames heap
  pub stays : method ≡ frames.newest.method
  pub stand : AreStanding (length x.marks.now) frames
  pub built : AreBuilt heap.objects
  pub celled : AreCelled x.shapes.now heap.objects
  pub ends : EndsSo p x counts (stuck_as made.stuck) frames heap g k
  pub few : AreFew most made.steps (stuck_as made.stuck)

pub record WereMade {E : Type 0} (p : Program) (x : RunTables E) (counts : Counts) (most : ℕ) (f : Framed E) (h : Heaped) (made : Hurried)
    (g : Framed E) (k : Heaped) : Type 0 where
  pub frames : Framed E
  pub heap : Heaped
  pub quiet : Quietly p x counts made.steps f h frames heap
  pub ends : EndsSo p x counts made.last frames heap g k
  pub few : AreFew most made.steps made.last

-- ---- for the machine

-- So many steps that went on and told nothing led from a machine to another.
unfoldable pub Leads : {E : Type 0} → ℕ → Machine E → Machine E → Type 0
Leads zero m n = n ≡ m
Leads {E} (suc k) m n = (mid : Machine E) × Leads k m mid × CameTo mid (done.Went []) n × StaysFixed mid n

-- A step behind them was begun, and came to this behind its thread's frames; or nothing has changed.
abbrev pub Began : {E : Type 0} → Option Stepped → Machine E → Machine E → Type 0
Began (Some came) m n = Moves m came n
Began None m n = n ≡ m

-- So many steps were made, of at most so many, and where that is said one more was begun.
pub record Begins {E : Type 0} (most : ℕ) (m : Machine E) (made : Hurried) (n : Machine E) : Type 0 where
  pub behind : Machine E
  pub leads : Leads made.steps m behind
  pub ready : IsReady behind
  pub rules : HasRules behind
  pub stays : StaysFixed m behind
  pub began : Began made.last behind n
  pub few : AreFew most made.steps made.last

-- A step behind them came to this; or nothing has changed.
abbrev pub Closes : {E : Type 0} → Option Executed → Machine E → Machine E → Type 0
Closes (Some done) m n = Executes m done n
Closes None m n = n ≡ m

-- So many steps were made, of at most so many; behind them one came to what is said, else nothing has changed.
pub record Tries {E : Type 0} (most : ℕ) (m : Machine E) (made : Hasty) (n : Machine E) : Type 0 where
  pub behind : Machine E
  pub leads : Leads made.steps m behind
  pub ready : IsReady behind
  pub stays : StaysFixed m behind
  pub closes : Closes made.last behind n
  pub few : AreFew most made.steps made.last
