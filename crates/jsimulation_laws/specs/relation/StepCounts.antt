-- How many steps of a moved program answer a step of the program: one for each instruction that its instruction becomes, and the four of the
-- prologue behind them where it invokes a method. So whatever hands on nothing is answered by one step.
use Rattle.std.specs.Prelude.{◌≡◌, ◌≤◌, ℕ, ◌+◌, Bool, false, List, [], ◌∷◌, length, Option, Some, None, nat_lt, if◌then◌else◌}
use Rattle.std.specs.List.{sum_by}
use Rattle.jlib.specs.declared.calls.ControllerCall.{ControllerCall}
use Rattle.jlib.specs.declared.calls.ControllerCall.TheVariants as controller
use Rattle.jresolution.specs.jprogram.ProgramClasses.{Program}
use Rattle.jresolution.specs.juses.IndexedInstructions.{Instruction, Used}
use Rattle.jresolution.specs.juses.InstructionMeanings.{Call}
use Rattle.jsemantics.specs.jmachine.MachineStates.{FrameOf, State, Outcome, Went, Over, NoStep}
use Rattle.jsemantics.specs.jmachine.MachineSteps.{fetched}
use Rattle.jsemantics.specs.jmachine.ThreadTurns.{guests}
use Rattle.jsimulation_laws.specs.relation.InstructionExpansion.{Alone, Asking, Handed, Place, Way, expanded, way_of}

-- ---- by the instruction, and by whether it invokes a method

-- the prologue of the method
abbrev pub prologue_steps : Bool → ℕ
prologue_steps invokes = if invokes then 4 else 0

-- a call of a method of AccessController: `checkPermission` and `getContext` invoke none
abbrev pub asking_steps : ControllerCall → Bool → ℕ
asking_steps controller.Check invokes = 2
asking_steps controller.Snapshot invokes = 2
asking_steps controller.Privileged invokes = 2 + prologue_steps invokes
asking_steps controller.PrivilegedWith invokes = 2 + prologue_steps invokes
asking_steps controller.PrivilegedLimited invokes = 3 + prologue_steps invokes

-- any call, by what it hands on
abbrev pub call_steps : Way → Bool → ℕ
call_steps Handed invokes = 2 + prologue_steps invokes
call_steps (Asking call) invokes = asking_steps call invokes
call_steps Alone invokes = 1

abbrev pub instruction_steps : Instruction → Bool → ℕ
instruction_steps (Used (Call by c)) invokes = call_steps (way_of c.member) invokes
instruction_steps i invokes = 1

-- where a thread has no instruction, it begins, with `run` of its Runnable, or ends
abbrev pub steps_of : Option Instruction → Bool → ℕ
steps_of (Some i) invokes = instruction_steps i invokes
steps_of None invokes = 1 + prologue_steps invokes

-- ---- by a state, and by what its step comes to

-- the instruction at which the newest of these frames stands
abbrev pub next_in : {K E : Type 0} → Program → List (FrameOf K E) → Option Instruction
next_in p [] = None
next_in p (f ∷ below) = fetched p f.method f.place

-- the frames of all threads
abbrev pub frames_of : {K E : Type 0} → State K E → ℕ
frames_of s = sum_by (λ g. length g.frames) (guests s)

-- a step invokes a method where there are more frames behind it (JVMS 2.6)
abbrev pub invokes : {K E : Type 0} → State K E → Outcome (State K E) → Bool
invokes s (Went t events) = nat_lt (frames_of s) (frames_of t)
invokes s (Over t events end) = false
invokes s NoStep = false

abbrev pub steps : {K E : Type 0} → Program → State K E → Outcome (State K E) → ℕ
steps p s o = steps_of (next_in p s.running.frames) (invokes s o)

-- ---- laws

-- An instruction that invokes no method is answered by as many steps as it becomes instructions,
abbrev pub StepsExpanded : Type 0
StepsExpanded = (p : Place) (to : ℕ → ℕ) (i : Instruction) → length (expanded p to i) ≡ instruction_steps i false

-- and each step by 1 to 7.
abbrev pub StepsFew : Type 0
StepsFew = (o : Option Instruction) (invokes : Bool) → (1 ≤ steps_of o invokes) × (steps_of o invokes ≤ 7)
