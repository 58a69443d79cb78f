-- What the units of a method's code name: its instructions, its handlers and its frames (JVMS 4.7.3, 4.7.4, 6.5). `table` is what the
-- entries of the pool stand for.
use Rattle.std.specs.Prelude.{ℕ, Bool, false, ◌||◌, ◌==◌, List, Option, Some, None, option_and_then, slice_get, if◌then◌else◌}
use Rattle.std.specs.List.{list_any}
use Rattle.jground.specs.jbase.FirstFaults.{fault_if, first_some, or_else}
use Rattle.jparts.specs.declared.jcode.op_form.ArrayForm.TheVariants as arrays
use Rattle.jparts.specs.declared.jcode.op_form.OpForm.{OpForm}
use Rattle.jparts.specs.declared.jcode.op_form.OpForm.TheVariants as forms
use Rattle.jparts.specs.declared.jcode.op_form.PoolForm.{PoolForm}
use Rattle.jparts.specs.declared.jcode.op_form.PoolForm.TheVariants as pool
use Rattle.jparts.specs.declared.jcode.op.Handler.{Handler}
use Rattle.jparts.specs.declared.jcode.op.Placed.{Placed}
use Rattle.jparts.specs.jcode.InstructionForms.{form}
use Rattle.jparts.specs.declared.jmaps.types.MapType.{MapType}
use Rattle.jparts.specs.declared.jmaps.types.MapType.TheVariants as items
use Rattle.jparts.specs.declared.jmaps.types.RawFrame.{RawFrame}
use Rattle.jclass.specs.declared.class.CodeAttribute.{CodeAttribute}
use Rattle.jclass.specs.declared.class.CodeAttribute.TheVariants as code
use Rattle.jresolution.specs.declared.jprogram.fault.LinkKind.{LinkKind}
use Rattle.jresolution.specs.declared.jprogram.fault.LinkKind.TheVariants.{LeftOut, NoMember}
use Rattle.jlinking.specs.declared.jreferring.judged.ClassUse.{ClassUse}
use Rattle.jlinking.specs.declared.jreferring.judged.Judged.{Judged}
use Rattle.jlinking.specs.declared.jreferring.judged.Judged.TheVariants as judged
use Rattle.jlinking.specs.declared.jreferring.judged.MemberUse.{MemberUse}
use Rattle.jlinking.specs.jreferring.ClassEntryUses.{new_test, operand_test}
use Rattle.jlinking.specs.jreferring.ReferenceUses.{call_test, field_test, interface_test}

-- ---- entries by their use

abbrev pub class_at : List Judged → ℕ → Option ClassUse
class_at table n = option_and_then (elim [ judged.Class u ↦ Some u | _ ↦ None ]) (slice_get table n)

abbrev pub member_at : List Judged → ℕ → Option MemberUse
member_at table n = option_and_then (elim [ judged.Member u ↦ Some u | _ ↦ None ]) (slice_get table n)

-- another entry than a reference stands for no member
abbrev pub or_no_member : (MemberUse → Option LinkKind) → Option MemberUse → Option LinkKind
or_no_member test = elim [ None ↦ Some NoMember | Some u ↦ test u ]

-- ldc pushes an int or a string; where it is of a class, this is named first
abbrev pub constant_test : Option Judged → Option LinkKind
constant_test (Some judged.Constant) = None
constant_test (Some (judged.Class u)) = or_else u.names (Some LeftOut)
constant_test _ = Some LeftOut

-- ldc2_w pushes a long
abbrev pub long_test : Option Judged → Option LinkKind
long_test (Some judged.LongConstant) = None
long_test _ = Some LeftOut

-- ---- instructions

abbrev pub operand_at : List Judged → ℕ → Option LinkKind
operand_at table n = option_and_then operand_test (class_at table n)

abbrev pub pool_test : List Judged → PoolForm → Option LinkKind
pool_test table (pool.Constant n) = constant_test (slice_get table n)
pool_test table (pool.LongConstant n) = long_test (slice_get table n)
pool_test table (pool.Field op n) = or_no_member (field_test op) (member_at table n)
pool_test table (pool.Call op n) = or_no_member (call_test op) (member_at table n)
pool_test table (pool.CallInterface n count) = or_no_member (interface_test count) (member_at table n)
pool_test table (pool.New n) = option_and_then new_test (class_at table n)
pool_test table (pool.Cast op n) = operand_at table n

abbrev pub form_test : {S : Type 0} → List Judged → OpForm S → Option LinkKind
form_test table (forms.Pool f) = pool_test table f
form_test table (forms.Array (arrays.NewRef n)) = operand_at table n
form_test table _ = None

unfoldable pub op_test : List Judged → Placed → Option LinkKind
op_test table placed = form_test table (form placed.op)

-- ---- handlers

-- one of index 0 catches all, and names no class
unfoldable pub handler_test : List Judged → Handler → Option LinkKind
handler_test table h = if h.class == 0 then None else operand_at table h.class

-- ---- frames

abbrev pub item_names : List Judged → MapType → Option LinkKind
item_names table = elim [ items.Object n ↦ option_and_then (λ u. u.names) (class_at table n) | _ ↦ None ]

abbrev pub is_barred : List Judged → MapType → Bool
is_barred table = elim [ items.Object n ↦ elim (class_at table n) [ None ↦ false | Some u ↦ u.barred_item ] | _ ↦ false ]

-- what the locals name comes first, then what the stack names, and then what may not stand there
unfoldable pub frame_test : List Judged → RawFrame → Option LinkKind
frame_test table f =
    or_else (first_some (item_names table) f.locals) (or_else (first_some (item_names table) f.stack)
    (fault_if (list_any (is_barred table) f.locals || list_any (is_barred table) f.stack) LeftOut))

abbrev pub attribute_test : List Judged → CodeAttribute → Option LinkKind
attribute_test table = elim [ code.Maps name frames ↦ first_some (frame_test table) frames | code.Raw name bytes ↦ None ]
