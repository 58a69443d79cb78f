-- How the instructions of methods lie in one list, one method behind the other, and what they stand for.
use Rattle.std.specs.Prelude.{◌≡◌, ℕ, ◌+◌, ◌<◌, ◌≤◌, Bool, true, false, ◌||◌, not, List, length, Option, Some, None, option_and_then, slice_get, nat_lt}
use Rattle.std.specs.Prelude.{if◌then◌else◌}
use Rattle.jparts.specs.declared.jcode.op.Placed.{Placed}
use Rattle.jresolution.specs.jprogram.ProgramClasses.{Program}
use Rattle.jresolution.specs.declared.juses.numbered.Condition.TheVariants as when
use Rattle.jresolution.specs.juses.IndexedInstructions.{Instruction, goes_on, instruction}
use Rattle.jresolution.specs.declared.juses.types.TypeRef.{TypeRef}
use Rattle.jresolution.specs.juses.PoolTables.{pool_at}
use Rattle.jready.specs.declared.instr.FlowInstr.{FlowInstr}
use Rattle.jready.specs.declared.instr.FlowInstr.TheVariants as flow
use Rattle.jready.specs.declared.instr.Instr.{Instr}
use Rattle.jready.specs.declared.instr.Instr.TheVariants as instr
use Rattle.jready.specs.declared.instr.OperandOp.{OperandOp}
use Rattle.jready.specs.declared.instr.OperandOp.TheVariants as plain
use Rattle.jready.specs.declared.instr.Push.{Push}
use Rattle.jready.specs.declared.instr.Push.TheVariants as push
use Rattle.jready.specs.declared.tables.Tables.{Tables}
use Rattle.jready.specs.InlineOperands.{Exact}
use Rattle.jready.specs.DecodedInstructions.{meant}
use Rattle.jready.specs.TableGrowth.{AreThere}

-- ---- one instruction

-- an instruction that goes on is one only where there is one more behind it
abbrev pub unless_last : Bool → Instruction → Option Instruction
unless_last more it = if not (goes_on it) || more then Some it else None

abbrev pub followed : Bool → Option Instruction → Option Instruction
followed more o = option_and_then (unless_last more) o

-- the instruction behind one by number may follow it
abbrev pub flow_goes_on : FlowInstr → Bool
flow_goes_on (flow.Jump when.Always to) = false
flow_goes_on (flow.Jump test to) = true
flow_goes_on f = false

abbrev pub instr_goes_on : Instr → Bool
instr_goes_on (instr.Flow f) = flow_goes_on f
instr_goes_on (instr.Table c) = false
instr_goes_on (instr.Lookup c) = false
instr_goes_on i = true

-- What it names by number is there.
abbrev pub PlainWithin : Tables → OperandOp → Type 0
PlainWithin t (plain.Long k) = k < length t.longs
PlainWithin t f = Unit {0}

abbrev pub PushWithin : Tables → Push → Type 0
PushWithin t (push.Long k) = k < length t.longs
PushWithin t f = Unit {0}

abbrev pub Within : Tables → Instr → Type 0
Within t (instr.Plain f) = PlainWithin t f
Within t (instr.Push f) = PushWithin t f
Within t (instr.Table c) = (c.first + 1) + c.count ≤ length t.targets
Within t (instr.Lookup c) = AreThere t.keys c.first c.count
Within t i = Unit {0}

-- An instruction by number, in the place of one of a method's; `more` says whether there is one behind it.
pub record Stands (p : Program) (types : List TypeRef) (t : Tables) (class : ℕ) (ops : List Placed) (more : Bool) (one : Placed)
    (i : Instr) : Type 0 where
  pub means : meant p t class i ≡ followed more (instruction p (pool_at p class) ops one)
  pub within : Within t i
  pub exact : Exact p types t class i

-- ---- those of a method

-- From a number on, so many stand in the places of a method's.
pub record AreLaid (p : Program) (types : List TypeRef) (t : Tables) (class : ℕ) (ops : List Placed) (code : List Instr)
    (first count : ℕ) : Type 0 where
  pub there : first + count ≤ length code
  pub each : (j : ℕ) (one : Placed) (i : Instr) → j < count → slice_get ops j ≡ Some one → slice_get code (first + j) ≡ Some i
      → Stands p types t class ops (nat_lt (j + 1) (length ops)) one i
