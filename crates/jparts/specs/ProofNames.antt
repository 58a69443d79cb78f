-- Names by which proofs and the contracts of inner functions call what the definitions say in place. What `javasec` and `dispatch` promise
-- reaches none of them.
use Rattle.std.specs.Prelude.{ℕ, ℤ, if◌then◌else◌, List, Option, None, Some, int_lt, ◌+◌, ◌-ℤ◌, unsigned_abs, Result, ok_or, ◌&&◌, ◌==◌}
use Rattle.jground.specs.jformat.Format.{◌·◌, Format, such}
use Rattle.jground.specs.jbase.FirstFaults.{fault_if}
use Rattle.jparts.specs.declared.jcode.op.Ldc.{Ldc}
use Rattle.jparts.specs.declared.jcode.op.Goto.{Goto}
use Rattle.jparts.specs.declared.jcode.op.Wide.{Wide}
use Rattle.jparts.specs.declared.jcode.op_form.LocalForm.{LocalForm}
use Rattle.jparts.specs.declared.jcode.op_form.LocalForm.TheVariants.{Move, Increment}
use Rattle.jparts.specs.declared.jcode.names.ObjectOp.{ObjectOp}
use Rattle.jparts.specs.declared.jcode.op_form.OpForm.{OpForm}
use Rattle.jparts.specs.declared.jcode.op.Switch.{Switch}
use Rattle.jparts.specs.declared.jcode.names.ObjectOp.TheVariants.{ArrayLength, Throw}
use Rattle.jparts.specs.declared.jcode.op.Op.{Op}
use Rattle.jparts.specs.declared.jcode.head.Head.{Head}
use Rattle.jparts.specs.jcode.Instructions.{parts, leads}
use Rattle.jparts.specs.declared.jcode.op.Placed.{Placed}
use Rattle.jparts.specs.declared.jcode.names.CastOp.{CastOp}
use Rattle.jparts.specs.declared.jcode.names.CastOp.TheVariants.{CheckCast, InstanceOf}
use Rattle.jparts.specs.declared.jcode.names.CallOp.{CallOp}
use Rattle.jparts.specs.declared.jcode.names.CallOp.TheVariants.{Virtual, Special, Static}
use Rattle.jparts.specs.declared.jcode.names.FieldOp.{FieldOp}
use Rattle.jparts.specs.declared.jcode.names.FieldOp.TheVariants.{GetStatic, PutStatic, GetField, PutField}
use Rattle.jparts.specs.declared.jcode.fault.CodeFault.{CodeFault}
use Rattle.jparts.specs.declared.jcode.fault.CodeFault.TheVariants.{BadOperand}
use Rattle.jparts.specs.jcode.OperandFormats.{i4}
use Rattle.jparts.specs.declared.jmaps.types.Row.{Row}
use Rattle.jparts.specs.jpool.Descriptors.{is_wide}
use Rattle.jparts.specs.declared.jpool.fault.PoolFault.{PoolFault}
use Rattle.jparts.specs.jpool.PoolEntries.{u1, u2}
use Rattle.jparts.specs.declared.jcode.op.Ldc.TheVariants as ldcs
use Rattle.jparts.specs.declared.jcode.op.Goto.TheVariants as gotos
use Rattle.jparts.specs.declared.jcode.op.Wide.TheVariants as wides
use Rattle.jparts.specs.declared.jcode.op_form.OpForm.TheVariants as forms
use Rattle.jparts.specs.declared.jcode.op_form.ArrayForm.TheVariants as arrays
use Rattle.jparts.specs.declared.jcode.op_form.Flow.TheVariants as flows

-- ---- of jcode.InstructionForms

abbrev pub ldc_index : Ldc → ℕ
ldc_index = elim [ ldcs.Narrow n ↦ n | ldcs.Wide n ↦ n ]

abbrev pub distance : Goto → ℤ
distance = elim [ gotos.Narrow by ↦ by | gotos.Wide by ↦ by ]

abbrev pub wide_form : Wide → LocalForm
wide_form = elim [ wides.Local kind access n ↦ Move access kind n | wides.Iinc n by ↦ Increment n by ]

abbrev pub object_form : ObjectOp → OpForm Switch
object_form = elim [ ArrayLength ↦ forms.Array arrays.Length | Throw ↦ forms.Flow flows.Throw ]

-- ---- of jcode.Instructions

abbrev pub op_head : Op → Head
op_head op = (parts op).0

abbrev pub lost : List Placed → Placed → Option ℕ
lost ps p = if leads ps p then None else Some p.at

-- ---- of jcode.Opcodes

abbrev pub cast_number : CastOp → ℕ
cast_number = elim [ CheckCast ↦ 0xc0 | InstanceOf ↦ 0xc1 ]

abbrev pub object_number : ObjectOp → ℕ
object_number = elim [ ArrayLength ↦ 0xbe | Throw ↦ 0xbf ]

abbrev pub call_step : CallOp → ℕ
call_step = elim [ Virtual ↦ 0 | Special ↦ 1 | Static ↦ 2 ]

abbrev pub field_step : FieldOp → ℕ
field_step = elim [ GetStatic ↦ 0 | PutStatic ↦ 1 | GetField ↦ 2 | PutField ↦ 3 ]

-- ---- of jcode.OperandFormats

-- the least and the greatest int of a table
abbrev pub bounds : Format CodeFault (ℤ × ℤ)
bounds = such (λ b. fault_if (int_lt b.1 b.0) BadOperand) (i4 · i4)

-- how many ints there are from the least to the greatest
abbrev pub span : ℤ → ℤ → ℕ
span low high = unsigned_abs (high -ℤ low) + 1

-- ---- of jmaps.StackMapFormat

abbrev pub or_kind : {K : Type 0} → K → Option Row → Result Row K
or_kind kind x = ok_or x kind

-- ---- of jpool.Descriptors

abbrev pub slots_of_type : ℕ → ℕ → ℕ
slots_of_type depth base = if depth == 0 && is_wide base then 2 else 1

-- ---- of jpool.PoolEntries

abbrev pub handle : Format PoolFault (ℕ × ℕ)
handle = u1 · u2
