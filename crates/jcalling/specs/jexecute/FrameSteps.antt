-- One step of a thread's frames, but for what the library does: what it came to, whatever the rules are that it runs under.
use Rattle.std.specs.Prelude.{◌≡◌, ◌⊎◌, ◌<◌, ◌+◌, ◌^◌, ⊤, ℕ, List}
use Rattle.jmemory.specs.jheap.Heaps.{Heaped}
use Rattle.jresolution.specs.jprogram.ProgramClasses.{Program}
use Rattle.jresolution.specs.juses.IndexedInstructions.{instruction_at}
use Rattle.jsemantics.specs.declared.jmachine.plan.Plan.{Plan}
use Rattle.jsemantics.specs.jmachine.MachineStates.{FrameOf, State}
use Rattle.jsemantics.specs.jmachine.AccessQueries.{asks}
use Rattle.jsemantics.specs.jmachine.Security.{Rules}
use Rattle.jsemantics.specs.jmachine.MachineSteps.{fetched, step}
use Rattle.jready.specs.declared.instr.Instr.{Instr}
use Rattle.jready.specs.declared.instr.Instr.TheVariants as instr
use Rattle.jready.specs.declared.instr.Push.TheVariants as push
use Rattle.jready.specs.InlineOperands.{Exact}
use Rattle.jready.specs.CodeLayout.{Within}
use Rattle.jready.specs.DecodedInstructions.{meant}
use Rattle.jruntime.specs.jstate.FrameLists.{Framed, all}
use Rattle.jruntime.specs.jstate.HeapMeanings.{Things, store_by}
use Rattle.jrows.specs.declared.jacts.way.Way.{Way}
use Rattle.jrows.specs.declared.jacts.way.Way.TheVariants as ways
use Rattle.jrows.specs.declared.jcalls.ready.Counts.{Counts}
use Rattle.jrows.specs.jcalls.FrameMarks.{marks_of}
use Rattle.jrows.specs.jcalls.Readiness.{AreCounted}
use Rattle.jstepping.specs.declared.jrefs.lasting.Lasting.{Lasting}
use Rattle.jstepping.specs.jrefs.ReferenceRows as refs
use Rattle.jstepping.specs.declared.jstep.run_tables.RunTables.{RunTables}
use Rattle.jstepping.specs.declared.jstep.outcomes.Stepped.{Stepped}
use Rattle.jstepping.specs.declared.jstep.outcomes.Stepped.TheVariants as steps
use Rattle.jstepping.specs.jstep.StepRelation.{CameTo, IsStep}
use Rattle.jcalling.specs.declared.jexecute.grouping.Group.{Group}
use Rattle.jcalling.specs.declared.jexecute.grouping.Group.TheVariants as groups

-- ---- the instruction

-- An instruction by number is that for which the machine looks where a frame stands, and a number may stand behind it.
pub record Fetches {E : Type 0} (p : Program) (x : RunTables E) (f : FrameOf ℕ E) (one : Instr) : Type 0 where
  pub means : meant p x.tables.now f.method.class one ≡ fetched p f.method f.place
  pub within : Within x.tables.now one
  pub exact : Exact p x.ready.now.uses.types x.tables.now f.method.class one
  pub next : (one ≡ instr.Off) ⊎ (f.place + 1 < 2 ^ 32)

-- there is one
abbrev pub IsThere : Instr → Type 0
IsThere instr.Off = ⊥
IsThere one = ⊤

-- which rows have it
abbrev pub IsOf : Instr → Group → Type 0
IsOf one groups.Off = one ≡ instr.Off
IsOf one (groups.Text i) = one ≡ instr.Push (push.Text i)
IsOf one groups.References = refs.IsHere one
IsOf one groups.Others = IsThere one × IsStep one

-- what lasts as long as a program runs, as the rows with references look at it
abbrev pub lasting_by : {E : Type 0} → RunTables E → Lasting
lasting_by x = record { ready = x.ready; shapes = x.shapes; ancestors = x.ancestors }

-- ---- what a step came to

-- The running thread of a state has these frames, and the state's store is that of a heap, where these string constants were made.
pub record IsAt {E : Type 0} (p : Program) (x : RunTables E) (counts : Counts) (constants : List (List ℕ × ℕ)) (f : Framed E) (h : Heaped)
    (plan : Plan) (s : State ℕ E) (things : Things) : Type 0 where
  pub depth : plan.depth ≡ x.depth
  pub counted : AreCounted counts things
  pub frames : s.running.frames ≡ all f
  pub store : s.store ≡ store_by p x.shapes.now things constants h

-- It came to what the machine's step comes to, and asks what that asks.
abbrev pub Advances : {E : Type 0} → Program → RunTables E → Counts
    → (before : List (List ℕ × ℕ)) → Framed E → Heaped → Stepped → (after : List (List ℕ × ℕ)) → Framed E → Heaped → Type 0
Advances {E} p x counts before f h done after g k =
    (r : Rules ℕ E) (plan : Plan) (s : State ℕ E) (things : Things) → x.marks.now ≡ marks_of r.entry_of p → IsAt p x counts before f h plan s things
    → CameTo r p plan s f done g (store_by p x.shapes.now things after k)
    (step r p plan s) (asks r.side p plan s) (instruction_at p f.newest.method f.newest.place)

-- what it came to behind a row that raises and throws nothing
abbrev pub quiet_as : Way → Stepped
quiet_as ways.Went = steps.Went
quiet_as ways.Full = steps.Full
quiet_as way = steps.Stuck
