-- Instructions, and code: instructions one behind the other (JVMS 4.7.3, 6.5).
use Rattle.std.specs.Prelude.{◌≡◌, ℕ, ◌+◌, ◌<◌, ◌==◌, ℤ, pos, ◌+ℤ◌, Bool, IsTrue, ◌&&◌, if◌then◌else◌, List, [], ◌∷◌, length, get_or, position, nat_le, nat_lt, Option, Some, None, option_map, Result, Ok, Err}
use Rattle.std.specs.List.{list_all, list_any}
use Rattle.std.specs.Ordering.{int_eq}
use Rattle.jground.specs.jbase.MemoryFailures.{◌>>=◌}
use Rattle.jground.specs.jbase.FirstFaults.{first_some}
use Rattle.jground.specs.declared.jformat.error.Fault.{Fault}
use Rattle.jground.specs.jformat.Format.{Answer, Format, fault, as_case, unless_fault}
use Rattle.jground.specs.jformat.FaultOffsets.{from_end}
use Rattle.jground.specs.jformat.BodyFormats.{Body}
use Rattle.jground.specs.jformat.StatefulFormats.{many_by}
use Rattle.jparts.specs.declared.jcode.fault.CodeFault.{CodeFault}
use Rattle.jparts.specs.declared.jcode.fault.CodeFault.TheVariants.{Truncated, BadTarget}
use Rattle.jparts.specs.declared.jcode.names.LocalKind.{LocalKind}
use Rattle.jparts.specs.declared.jcode.names.LocalKind.TheVariants as kinds
use Rattle.jparts.specs.declared.jcode.op.Op.{Op}
use Rattle.jparts.specs.declared.jcode.op.Op.TheVariants as ops
use Rattle.jparts.specs.declared.jcode.op.IntConst.TheVariants as consts
use Rattle.jparts.specs.declared.jcode.op.Ldc.TheVariants as ldcs
use Rattle.jparts.specs.declared.jcode.op.LocalOp.{LocalOp}
use Rattle.jparts.specs.declared.jcode.op.LocalOp.TheVariants as locals
use Rattle.jparts.specs.declared.jcode.op.Goto.TheVariants as gotos
use Rattle.jparts.specs.declared.jcode.op.NewOp.TheVariants as news
use Rattle.jparts.specs.declared.jcode.op.Switch.TheVariants as switches
use Rattle.jparts.specs.declared.jcode.op.Placed.{Placed}
use Rattle.jparts.specs.declared.jcode.op.Handler.{Handler}
use Rattle.jparts.specs.declared.jcode.head.Head.{Head}
use Rattle.jparts.specs.declared.jcode.head.Head.TheVariants as heads
use Rattle.jparts.specs.declared.jcode.head.OneByteOp.{OneByteOp}
use Rattle.jparts.specs.declared.jcode.head.OneByteOp.TheVariants as plain
use Rattle.jparts.specs.declared.jcode.head.ByteHead.TheVariants as byte
use Rattle.jparts.specs.declared.jcode.head.IndexHead.TheVariants as index
use Rattle.jparts.specs.declared.jcode.head.BranchHead.TheVariants as branch
use Rattle.jparts.specs.declared.jcode.head.OtherHead.TheVariants as other
use Rattle.jparts.specs.jcode.InstructionForms.{form, branches}
use Rattle.jparts.specs.jcode.Opcodes.{head_number, head_at}
use Rattle.jparts.specs.jcode.OperandFormats.{Operand, operands}

-- ---- an instruction as an opcode and its operands

abbrev pub local_op : LocalKind → LocalOp → Op
local_op = elim [ kinds.Int ↦ ops.IntLocal | kinds.Long ↦ ops.LongLocal | kinds.Ref ↦ ops.RefLocal ]

abbrev pub op_from : (h : Head) → Operand h → Op
op_from (heads.Plain plain.Nop) x = ops.Nop
op_from (heads.Plain plain.AconstNull) x = ops.AconstNull
op_from (heads.Plain (plain.IntConst n)) x = ops.IntConst (consts.Small n)
op_from (heads.Plain (plain.LongConst n)) x = ops.LongConst n
op_from (heads.Plain (plain.Local kind access slot)) x = local_op kind (locals.Slot access slot)
op_from (heads.Plain (plain.ArrayLoad element)) x = ops.ArrayLoad element
op_from (heads.Plain (plain.ArrayStore element)) x = ops.ArrayStore element
op_from (heads.Plain (plain.Stack op)) x = ops.Stack op
op_from (heads.Plain (plain.Two op)) x = ops.Two op
op_from (heads.Plain (plain.Divide op)) x = ops.Divide op
op_from (heads.Plain (plain.One op)) x = ops.One op
op_from (heads.Plain (plain.Return kind)) x = ops.Return kind
op_from (heads.Plain (plain.Object op)) x = ops.Object op
op_from (heads.Byte byte.Ldc) n = ops.Ldc (ldcs.Narrow n)
op_from (heads.Byte (byte.Local kind access)) n = local_op kind (locals.At access n)
op_from (heads.Index index.LdcWide) n = ops.Ldc (ldcs.Wide n)
op_from (heads.Index index.Ldc2) n = ops.Ldc2 n
op_from (heads.Index (index.Field op)) n = ops.Field op n
op_from (heads.Index (index.Call op)) n = ops.Call op n
op_from (heads.Index index.New) n = ops.New (news.Object n)
op_from (heads.Index index.NewRefArray) n = ops.New (news.RefArray n)
op_from (heads.Index (index.Cast op)) n = ops.Cast op n
op_from (heads.Branch (branch.If test)) by = ops.If test by
op_from (heads.Branch (branch.IfInt test)) by = ops.IfInt test by
op_from (heads.Branch (branch.IfRef test)) by = ops.IfRef test by
op_from (heads.Branch branch.Goto) by = ops.Goto (gotos.Narrow by)
op_from (heads.Other other.Bipush) n = ops.IntConst (consts.Byte n)
op_from (heads.Other other.Sipush) n = ops.IntConst (consts.Short n)
op_from (heads.Other other.Iinc) p = ops.Iinc p.0 p.1
op_from (heads.Other other.TableSwitch) s = ops.Switch (switches.Table s)
op_from (heads.Other other.LookupSwitch) s = ops.Switch (switches.Lookup s)
op_from (heads.Other other.CallInterface) p = ops.CallInterface p.0 p.1
op_from (heads.Other other.NewArray) element = ops.New (news.Array element)
op_from (heads.Other other.Wide) w = ops.Wide w
op_from (heads.Other other.GotoWide) by = ops.Goto (gotos.Wide by)

-- an opcode and its operands
abbrev pub Parts : Type 0
Parts = (h : Head) × Operand h

abbrev pub bare : OneByteOp → Parts
bare h = (heads.Plain h, tt)

abbrev pub local_parts : LocalKind → LocalOp → Parts
local_parts kind = elim [ locals.At access n ↦ (heads.Byte (byte.Local kind access), n) | locals.Slot access n ↦ bare (plain.Local kind access n) ]

-- the opcode of an instruction, and its operands
abbrev pub parts : Op → Parts
parts ops.Nop = bare plain.Nop
parts ops.AconstNull = bare plain.AconstNull
parts (ops.IntConst (consts.Small n)) = bare (plain.IntConst n)
parts (ops.IntConst (consts.Byte n)) = (heads.Other other.Bipush, n)
parts (ops.IntConst (consts.Short n)) = (heads.Other other.Sipush, n)
parts (ops.LongConst n) = bare (plain.LongConst n)
parts (ops.Ldc (ldcs.Narrow n)) = (heads.Byte byte.Ldc, n)
parts (ops.Ldc (ldcs.Wide n)) = (heads.Index index.LdcWide, n)
parts (ops.Ldc2 n) = (heads.Index index.Ldc2, n)
parts (ops.IntLocal op) = local_parts kinds.Int op
parts (ops.LongLocal op) = local_parts kinds.Long op
parts (ops.RefLocal op) = local_parts kinds.Ref op
parts (ops.ArrayLoad element) = bare (plain.ArrayLoad element)
parts (ops.ArrayStore element) = bare (plain.ArrayStore element)
parts (ops.Stack op) = bare (plain.Stack op)
parts (ops.Two op) = bare (plain.Two op)
parts (ops.Divide op) = bare (plain.Divide op)
parts (ops.One op) = bare (plain.One op)
parts (ops.Iinc n by) = (heads.Other other.Iinc, (n, by))
parts (ops.If test by) = (heads.Branch (branch.If test), by)
parts (ops.IfInt test by) = (heads.Branch (branch.IfInt test), by)
parts (ops.IfRef test by) = (heads.Branch (branch.IfRef test), by)
parts (ops.Goto (gotos.Narrow by)) = (heads.Branch branch.Goto, by)
parts (ops.Goto (gotos.Wide by)) = (heads.Other other.GotoWide, by)
parts (ops.Switch (switches.Table s)) = (heads.Other other.TableSwitch, s)
parts (ops.Switch (switches.Lookup s)) = (heads.Other other.LookupSwitch, s)
parts (ops.Return kind) = bare (plain.Return kind)
parts (ops.Field op n) = (heads.Index (index.Field op), n)
parts (ops.Call op n) = (heads.Index (index.Call op), n)
parts (ops.CallInterface n slots) = (heads.Other other.CallInterface, (n, slots))
parts (ops.New (news.Object n)) = (heads.Index index.New, n)
parts (ops.New (news.Array element)) = (heads.Other other.NewArray, element)
parts (ops.New (news.RefArray n)) = (heads.Index index.NewRefArray, n)
parts (ops.Object op) = bare (plain.Object op)
parts (ops.Cast op n) = (heads.Index (index.Cast op), n)
parts (ops.Wide w) = (heads.Other other.Wide, w)

-- what stands behind the opcode of an instruction at a place
unfoldable pub behind : ℕ → Op → List ℕ
behind at op = (operands at (parts op).0).spell (parts op).1

-- its operands have a spelling
unfoldable pub behind_fits : ℕ → Op → Bool
behind_fits at op = (operands at (parts op).0).fits (parts op).1

-- ---- an instruction at a place

-- a fault is named at the instruction's first byte
abbrev pub at_front : {A : Type 0} → List ℕ → Answer CodeFault A → Answer CodeFault A
at_front bytes y = elim y [ Ok x ↦ Ok x | Err d ↦ fault d.kind bytes ]

-- an instruction behind its opcode
unfoldable pub read_behind : ℕ → Head → List ℕ → Answer CodeFault Op
read_behind at h bytes = (operands at h).read bytes >>= λ x. Ok (op_from h x.0, x.1)

abbrev pub behind_head : ℕ → List ℕ → Result Head CodeFault → Answer CodeFault Op
behind_head at rest = elim [ Ok h ↦ read_behind at h rest | Err kind ↦ fault kind rest ]

abbrev pub instruction_at : ℕ → List ℕ → Answer CodeFault Op
instruction_at at = elim [ [] ↦ fault Truncated [] | t ∷ rest ↦ at_front (t ∷ rest) (behind_head at rest (head_at t)) ]

-- the opcode's byte, and behind it the operands
unfoldable pub instruction : ℕ → Format CodeFault Op
instruction at = record { spell = λ op. head_number ((parts op).0) ∷ behind at op; fits = behind_fits at; read = instruction_at at }

-- the number of bytes of an instruction at a place
unfoldable pub size : ℕ → Op → ℕ
size at op = length ((instruction at).spell op)

-- ---- instructions one behind the other

abbrev pub placed_at : ℕ → Op → Placed
placed_at at op = record { at = at; op = op }

-- an instruction with its place
abbrev pub placed : ℕ → Format CodeFault Placed
placed at = as_case (placed_at at) (λ p. if p.at == at then Some p.op else None) (instruction at)

abbrev pub place_behind : ℕ → Placed → ℕ
place_behind at p = at + size at p.op

-- instructions from place 0 on, each at the sum of the sizes before it
unfoldable pub instructions : Body CodeFault (List Placed)
instructions = many_by Truncated placed place_behind 0

-- ---- branches

-- the number of the instruction that begins at a place
abbrev pub place_of : List Placed → ℕ → Option ℕ
place_of ps at = position (λ p. p.at == at) ps

-- an instruction stands at this place
abbrev pub is_place : List Placed → ℤ → Bool
is_place ps target = list_any (λ p. int_eq (pos p.at) target) ps

-- a branch from a place leads to an instruction
abbrev pub lands : List Placed → ℕ → ℤ → Bool
lands ps at by = is_place ps (pos at +ℤ by)

-- each branch of an instruction leads to an instruction
abbrev pub leads : List Placed → Placed → Bool
leads ps p = list_all (lands ps p.at) (branches (form p.op))

-- the first instruction with a branch that leads to none
unfoldable pub first_lost : List Placed → Option ℕ
first_lost ps = first_some (λ p. if leads ps p then None else Some p.at) ps

abbrev pub lost_fault : List ℕ → Option ℕ → Option (Fault CodeFault)
lost_fault bytes at = option_map (λ at. from_end bytes (record { at = at; kind = BadTarget })) at

-- code: instructions one behind the other, whose branches lead to instructions
unfoldable pub code : Body CodeFault (List Placed)
code = record {
  spell = instructions.spell;
  fits = λ ps. instructions.fits ps && list_all (leads ps) ps;
  read = λ bytes. instructions.read bytes >>= λ ps. unless_fault ps (lost_fault bytes (first_lost ps));
}

-- these bytes spell these instructions
abbrev pub Spells : List ℕ → List Placed → Type 0
Spells bytes ps = IsTrue (code.fits ps) × (bytes ≡ code.spell ps)

-- ---- places

-- Each instruction stands behind the one before it.
abbrev pub Rises : List Placed → Type 0
Rises ps = (i j : ℕ) (d : Placed) → i < j → j < length ps → (get_or ps i d).at < (get_or ps j d).at

-- a handler covers the places from its start up to its end, the end left out (JVMS 4.7.3)
abbrev pub covers : ℕ → Handler → Bool
covers at h = nat_le h.start at && nat_lt at h.«end»
