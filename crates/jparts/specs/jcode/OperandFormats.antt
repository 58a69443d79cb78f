-- What stands behind an opcode (JVMS 6.5).
use Rattle.std.specs.Prelude.{ℕ, zero, suc, ◌+◌, ◌-◌, ◌%◌, ◌==◌, nat_le, ℤ, ◌-ℤ◌, int_lt, unsigned_abs, if◌then◌else◌, List, [], ◌∷◌, Option, Some, None}
use Rattle.std.specs.Int.{w8, w16, w32}
use Rattle.jground.specs.jbase.FirstFaults.{fault_if}
use Rattle.jground.specs.jformat.Format.{Format, void, byte, number, signed, ◌·◌, ◌▹◌, via, known, such, literal}
use Rattle.jground.specs.jformat.BodyFormats.{counted}
use Rattle.jground.specs.jformat.StatefulFormats.{counted_from}
use Rattle.jground.specs.jformat.TagTables.{is_in}
use Rattle.jground.specs.jformat.UnionFormats.{Cases, case, sole, two_of, ◌∣◌, union}
use Rattle.jparts.specs.declared.jcode.fault.CodeFault.{CodeFault}
use Rattle.jparts.specs.declared.jcode.fault.CodeFault.TheVariants.{Truncated, LeftOut, BadOperand}
use Rattle.jparts.specs.declared.jcode.names.ArrayType.{ArrayType}
use Rattle.jparts.specs.declared.jcode.names.ArrayType.TheVariants as arrays
use Rattle.jparts.specs.declared.jcode.names.LocalKind.{LocalKind}
use Rattle.jparts.specs.declared.jcode.names.LocalKind.TheVariants as kinds
use Rattle.jparts.specs.declared.jcode.names.Access.{Access}
use Rattle.jparts.specs.declared.jcode.names.Access.TheVariants.{Load, Store}
use Rattle.jparts.specs.declared.jcode.op.TableSwitch.{TableSwitch}
use Rattle.jparts.specs.declared.jcode.op.LookupSwitch.{LookupSwitch}
use Rattle.jparts.specs.declared.jcode.op.Case.{Case}
use Rattle.jparts.specs.declared.jcode.op.Wide.{Wide}
use Rattle.jparts.specs.declared.jcode.op.Wide.TheVariants as wides
use Rattle.jparts.specs.declared.jcode.head.Head.{Head}
use Rattle.jparts.specs.declared.jcode.head.Head.TheVariants as heads
use Rattle.jparts.specs.declared.jcode.head.ByteHead.TheVariants as byte
use Rattle.jparts.specs.declared.jcode.head.OtherHead.TheVariants as other
use Rattle.jparts.specs.jcode.Opcodes.{head_number}

-- ---- numbers

abbrev pub u1 : Format CodeFault ℕ
u1 = byte Truncated

abbrev pub u2 : Format CodeFault ℕ
u2 = number w16 Truncated

abbrev pub u4 : Format CodeFault ℕ
u4 = number w32 Truncated

abbrev pub i1 : Format CodeFault ℤ
i1 = signed w8 Truncated

abbrev pub i2 : Format CodeFault ℤ
i2 = signed w16 Truncated

abbrev pub i4 : Format CodeFault ℤ
i4 = signed w32 Truncated

-- ---- switches

-- a zero byte
abbrev pub nil : Format CodeFault (Unit {0})
nil = literal u1 BadOperand 0

-- so many zero bytes
unfoldable pub nils : ℕ → Format CodeFault (Unit {0})
nils zero = void
nils (suc n) = via (λ _. tt) (λ _. (tt, tt)) (nil · nils n)

-- Behind an opcode at a place stand zero bytes up to the next multiple of four.
abbrev pub padding : ℕ → Format CodeFault (Unit {0})
padding at = nils (3 - at % 4)

-- the bounds, and a branch for each int from the least to the greatest
unfoldable pub bounded : Format CodeFault ((ℤ × ℤ) × List ℤ)
bounded = such (λ b. fault_if (int_lt b.1 b.0) BadOperand) (i4 · i4) ▹ λ b. counted (known (unsigned_abs (b.1 -ℤ b.0) + 1)) i4

unfoldable pub table_switch : ℕ → Format CodeFault TableSwitch
table_switch at =
    via (λ p. record { default = p.1.0; low = p.1.1.0.0; high = p.1.1.0.1; branches = p.1.1.1 })
    (λ s. (tt, (s.default, ((s.low, s.high), s.branches))))
    (padding at · i4 · bounded)

-- a number of cases, which isn't negative as a signed number
abbrev pub case_count : Format CodeFault ℕ
case_count = such (λ n. fault_if (nat_le 0x8000_0000 n) BadOperand) u4

-- Each key is above the one before it.
abbrev pub falls : Option ℤ → ℤ → Option CodeFault
falls x key = elim x [ None ↦ None | Some before ↦ if int_lt before key then None else Some BadOperand ]

abbrev pub case_behind : Option ℤ → Format CodeFault Case
case_behind before = via (λ p. record { key = p.0; branch = p.1 }) (λ c. (c.key, c.branch)) (such (falls before) i4 · i4)

abbrev pub key_of : Option ℤ → Case → Option ℤ
key_of before c = Some c.key

unfoldable pub lookup_switch : ℕ → Format CodeFault LookupSwitch
lookup_switch at =
    via (λ p. record { default = p.1.0; cases = p.1.1 }) (λ s. (tt, (s.default, s.cases)))
    (padding at · i4 · counted_from case_count case_behind key_of None)

-- ---- calls by an interface, arrays, wide instructions

-- the method, the number of argument slots, which isn't 0, and a zero byte
unfoldable pub interface_call : Format CodeFault (ℕ × ℕ)
interface_call = via (λ p. (p.0, p.1.0)) (λ p. (p.0, (p.1, tt))) (u2 · such (λ n. fault_if (n == 0) BadOperand) u1 · nil)

abbrev pub array_number : ArrayType → ℕ
array_number = elim [ arrays.Boolean ↦ 4 | arrays.Char ↦ 5 | arrays.Byte ↦ 8 | arrays.Short ↦ 9 | arrays.Int ↦ 10 | arrays.Long ↦ 11 ]

abbrev pub array_case : ArrayType → Cases CodeFault ArrayType
array_case one = sole (array_number one) one (λ other. array_number other == array_number one)

abbrev pub array_cases : Cases CodeFault ArrayType
array_cases = array_case arrays.Boolean ∣ array_case arrays.Char ∣ array_case arrays.Byte ∣ array_case arrays.Short ∣ array_case arrays.Int ∣ array_case arrays.Long

-- the code of newarray (JVMS 6.5, newarray)
unfoldable pub array_type : Format CodeFault ArrayType
array_type = union Truncated (λ _. BadOperand) array_cases

-- the opcode that is widened
abbrev pub local_number : LocalKind → Access → ℕ
local_number kind access = head_number (heads.Byte (byte.Local kind access))

abbrev pub local_of : LocalKind → Access → Wide → Option ℕ
local_of kind access = elim [ wides.Local k way n ↦ if local_number k way == local_number kind access then Some n else None | wides.Iinc n by ↦ None ]

abbrev pub increment_of : Wide → Option (ℕ × ℤ)
increment_of = elim [ wides.Local kind access n ↦ None | wides.Iinc n by ↦ Some (n, by) ]

abbrev pub wide_local : LocalKind → Access → Cases CodeFault Wide
wide_local kind access = case (local_number kind access) (wides.Local kind access) (local_of kind access) u2

abbrev pub wide_cases : Cases CodeFault Wide
wide_cases = wide_local kinds.Int Load ∣ wide_local kinds.Long Load ∣ wide_local kinds.Ref Load ∣ wide_local kinds.Int Store ∣ wide_local kinds.Long Store
    ∣ wide_local kinds.Ref Store ∣ case 0x84 (two_of wides.Iinc) increment_of (u2 · i2)

-- The float and double loads and stores and ret are left out; no other opcode may be widened.
abbrev pub not_wide : ℕ → CodeFault
not_wide t = if is_in t (0x17 ∷ 0x18 ∷ 0x38 ∷ 0x39 ∷ 0xa9 ∷ []) then LeftOut t else BadOperand

-- the opcode that is widened, and its operands
unfoldable pub wide : Format CodeFault Wide
wide = union Truncated not_wide wide_cases

-- ---- by the opcode

-- the operands of an opcode
abbrev pub Operand : Head → Type 0
Operand (heads.Plain h) = Unit {0}
Operand (heads.Byte h) = ℕ
Operand (heads.Index h) = ℕ
Operand (heads.Branch h) = ℤ
Operand (heads.Other other.Bipush) = ℤ
Operand (heads.Other other.Sipush) = ℤ
Operand (heads.Other other.Iinc) = ℕ × ℤ
Operand (heads.Other other.TableSwitch) = TableSwitch
Operand (heads.Other other.LookupSwitch) = LookupSwitch
Operand (heads.Other other.CallInterface) = ℕ × ℕ
Operand (heads.Other other.NewArray) = ArrayType
Operand (heads.Other other.Wide) = Wide
Operand (heads.Other other.GotoWide) = ℤ

-- how they are written behind an opcode at a place
abbrev pub operands : ℕ → (h : Head) → Format CodeFault (Operand h)
operands at (heads.Plain h) = void
operands at (heads.Byte h) = u1
operands at (heads.Index h) = u2
operands at (heads.Branch h) = i2
operands at (heads.Other other.Bipush) = i1
operands at (heads.Other other.Sipush) = i2
operands at (heads.Other other.Iinc) = u1 · i1
operands at (heads.Other other.TableSwitch) = table_switch at
operands at (heads.Other other.LookupSwitch) = lookup_switch at
operands at (heads.Other other.CallInterface) = interface_call
operands at (heads.Other other.NewArray) = array_type
operands at (heads.Other other.Wide) = wide
operands at (heads.Other other.GotoWide) = i4
