-- What an instruction by number did that the machine's definition has a row for.
use Rattle.std.specs.Prelude.{◌≡◌, ⊤, ℕ, List, [], Option, Some}
use Rattle.jparts.specs.declared.jcode.names.Element.TheVariants as items
use Rattle.jmemory.specs.jheap.Heaps.{Heaped}
use Rattle.jvalues.specs.declared.jops.value.Value.{Value}
use Rattle.jvalues.specs.declared.jops.value.Value.TheVariants as values
use Rattle.jresolution.specs.jprogram.ProgramClasses.{Program}
use Rattle.jresolution.specs.declared.juses.numbered.Condition.{Condition}
use Rattle.jresolution.specs.declared.juses.numbered.Condition.TheVariants as when
use Rattle.jresolution.specs.juses.IndexedInstructions.{Instruction, Used}
use Rattle.jresolution.specs.juses.InstructionMeanings as meanings
use Rattle.jsemantics.specs.jmachine.MachineStates.{FrameOf}
use Rattle.jready.specs.declared.instr.ArrayInstr.{ArrayInstr}
use Rattle.jready.specs.declared.instr.ArrayInstr.TheVariants as array
use Rattle.jready.specs.declared.instr.FlowInstr.{FlowInstr}
use Rattle.jready.specs.declared.instr.FlowInstr.TheVariants as flow
use Rattle.jready.specs.declared.instr.Instr.{Instr}
use Rattle.jready.specs.declared.instr.Instr.TheVariants as instr
use Rattle.jready.specs.declared.instr.Push.{Push}
use Rattle.jready.specs.declared.instr.Push.TheVariants as push
use Rattle.jready.specs.declared.tables.Tables.{Tables}
use Rattle.jready.specs.DecodedInstructions.{meant}
use Rattle.jruntime.specs.declared.jstate.shapes.Shapes.{Shapes}
use Rattle.jruntime.specs.jstate.HeapMeanings.{Things, store_by}
use Rattle.jrows.specs.declared.jacts.way.Way.{Way}
use Rattle.jrows.specs.declared.jacts.way.Way.TheVariants as ways
use Rattle.jrows.specs.jacts.RowOutcomes.{Acts, Does, leaves}
use Rattle.jrows.specs.jcalls.MethodCalls.{IsThrown}

-- ---- what was done

-- Where this is an instruction, a row did what it does.
abbrev pub DoesAs : {E : Type 0} → Option Instruction → FrameOf ℕ E → Way → FrameOf ℕ E → Type 0
DoesAs o f way g = (i : Instruction) → o ≡ Some i → Does i f way g

-- What an instruction by number stands for was done at the newest frame, with the store that the heap stands for, whatever else is told.
abbrev pub Runs : {E : Type 0} → Tables → Shapes → Instr → FrameOf ℕ E → Heaped → Way → FrameOf ℕ E → Heaped → Type 0
Runs tables shapes one f h way g k =
    (p : Program) (class : ℕ) (things : Things) (constants : List (List ℕ × ℕ)) (i : Instruction) → meant p tables class one ≡ Some i
    → Acts i f (store_by p shapes things constants h) (leaves way [] g (store_by p shapes things constants k))

-- ---- constants

-- a constant of the pool that is a number
abbrev pub IsNumberPush : Push → Type 0
IsNumberPush (push.Text i) = ⊥
IsNumberPush f = ⊤

abbrev pub IsNumber : Value ℕ → Type 0
IsNumber (values.Int n) = ⊤
IsNumber (values.Long n) = ⊤
IsNumber v = ⊥

abbrev pub number_of : Value ℕ → meanings.Pushed
number_of (values.Int n) = meanings.Int n
number_of (values.Long n) = meanings.Long n
number_of v = meanings.Text []

-- the instruction that pushes a number
abbrev pub pushed : Value ℕ → Instruction
pushed v = Used (meanings.Push (number_of v))

-- ---- jumps

-- a test of numbers
abbrev pub IsNumberTest : Condition → Type 0
IsNumberTest (when.IfRef test) = ⊥
IsNumberTest test = ⊤

-- ---- arrays

-- it stores no reference
abbrev pub StoresNumber : ArrayInstr → Type 0
StoresNumber (array.Store items.Ref) = ⊥
StoresNumber f = ⊤

-- ---- all

-- a branch that tests no reference
abbrev pub IsFlowHere : FlowInstr → Type 0
IsFlowHere (flow.Jump test to) = IsNumberTest test
IsFlowHere f = ⊥

-- an instruction with numbers alone, with a local, with the newest items of the stack, or with an array of numbers
abbrev pub IsHere : Instr → Type 0
IsHere (instr.Plain f) = ⊤
IsHere (instr.Push f) = IsNumberPush f
IsHere (instr.Local f) = ⊤
IsHere (instr.Stack f) = ⊤
IsHere (instr.Flow f) = IsFlowHere f
IsHere (instr.Table c) = ⊤
IsHere (instr.Lookup c) = ⊤
IsHere (instr.Array f) = StoresNumber f
IsHere f = ⊥

-- ---- what is left to do

abbrev pub IsRaising : Way → Type 0
IsRaising (ways.Raises class) = ⊤
IsRaising way = ⊥

-- Nothing is thrown but what is raised, of a class that can be thrown.
abbrev pub MayRaise : Way → Type 0
MayRaise (ways.Raises class) = IsThrown class
MayRaise (ways.Throws n) = ⊥
MayRaise way = ⊤

-- So it is; a frame that raises stands where it stood, and one that goes on is of the same method.
abbrev pub Stays : {E : Type 0} → Way → FrameOf ℕ E → FrameOf ℕ E → Type 0
Stays (ways.Raises class) f g = IsThrown class × (g.method ≡ f.method) × (g.place ≡ f.place)
Stays ways.Went f g = g.method ≡ f.method
Stays (ways.Throws n) f g = ⊥
Stays way f g = ⊤
