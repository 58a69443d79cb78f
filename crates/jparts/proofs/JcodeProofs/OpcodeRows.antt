-- What stands behind each opcode, computed.
use Rattle.std.proofs.Common.{◌≡◌, ℕ, ℤ, List, [], ◌∷◌, refl}
use Rattle.std.proofs.lemmas.List.{append-nil, append_assoc}
use Rattle.std.specs.Prelude.{Ok}
use Rattle.jground.specs.jbase.MemoryFailures.{◌>>=◌}
use Rattle.jground.specs.jformat.Format.{◌·◌}
use Rattle.jvalues.specs.declared.jnames.names.Compare.{Compare}
use Rattle.jvalues.specs.declared.jnames.names.Division.{Division}
use Rattle.jvalues.specs.declared.jnames.names.OpOne.{OpOne}
use Rattle.jvalues.specs.declared.jnames.names.OpTwo.{OpTwo}
use Rattle.jvalues.specs.declared.jnames.names.Shuffle.{Shuffle}
use Rattle.jparts.specs.declared.jcode.names.Access.{Access}
use Rattle.jparts.specs.declared.jcode.names.ArrayType.{ArrayType}
use Rattle.jparts.specs.declared.jcode.names.CallOp.{CallOp}
use Rattle.jparts.specs.declared.jcode.names.CastOp.{CastOp}
use Rattle.jparts.specs.declared.jcode.names.Element.{Element}
use Rattle.jparts.specs.declared.jcode.names.FieldOp.{FieldOp}
use Rattle.jparts.specs.declared.jcode.names.ObjectOp.{ObjectOp}
use Rattle.jparts.specs.declared.jcode.names.RefTest.{RefTest}
use Rattle.jparts.specs.declared.jcode.names.Returned.{Returned}
use Rattle.jparts.specs.declared.jcode.names.Slot.{Slot}
use Rattle.jparts.specs.declared.jcode.names.SmallInt.{SmallInt}
use Rattle.jparts.specs.declared.jcode.names.SmallLong.{SmallLong}
use Rattle.jparts.specs.declared.jcode.op.IntConst.TheVariants as consts
use Rattle.jparts.specs.declared.jcode.op.Ldc.TheVariants as ldcs
use Rattle.jparts.specs.declared.jcode.op.LocalOp.TheVariants as locals
use Rattle.jparts.specs.declared.jcode.op.Goto.TheVariants as gotos
use Rattle.jparts.specs.declared.jcode.op.NewOp.TheVariants as news
use Rattle.jparts.specs.declared.jcode.op.Switch.TheVariants as switches
use Rattle.jparts.specs.declared.jcode.op.Op.TheVariants as ops
use Rattle.jparts.specs.declared.jcode.op.Wide.{Wide}
use Rattle.jparts.specs.declared.jcode.op.TableSwitch.{TableSwitch}
use Rattle.jparts.specs.declared.jcode.op.LookupSwitch.{LookupSwitch}
use Rattle.jparts.specs.declared.jcode.head.Head.TheVariants as heads
use Rattle.jparts.specs.declared.jcode.head.OneByteOp.{OneByteOp}
use Rattle.jparts.specs.declared.jcode.head.ByteHead.{ByteHead}
use Rattle.jparts.specs.declared.jcode.head.IndexHead.{IndexHead}
use Rattle.jparts.specs.declared.jcode.head.BranchHead.{BranchHead}
use Rattle.jparts.specs.declared.jcode.head.OtherHead.TheVariants as other
use Rattle.jparts.specs.jcode.OperandFormats.{u1, u2, i1, i2, i4, table_switch, lookup_switch, interface_call, array_type, wide}
use Rattle.jparts.specs.jcode.Instructions.{behind, behind_fits, read_behind, op_from}

-- ---- writing

pub bipush_row : (at : ℕ) (n : ℤ) → behind at (ops.IntConst (consts.Byte n)) ≡ i1.spell n
unfolding behind
bipush_row at n = refl

pub sipush_row : (at : ℕ) (n : ℤ) → behind at (ops.IntConst (consts.Short n)) ≡ i2.spell n
unfolding behind
sipush_row at n = refl

pub ldc_row : (at : ℕ) (n : ℕ) → behind at (ops.Ldc (ldcs.Narrow n)) ≡ u1.spell n
unfolding behind
ldc_row at n = refl

pub ldc_wide_row : (at : ℕ) (n : ℕ) → behind at (ops.Ldc (ldcs.Wide n)) ≡ u2.spell n
unfolding behind
ldc_wide_row at n = refl

pub ldc2_row : (at : ℕ) (n : ℕ) → behind at (ops.Ldc2 n) ≡ u2.spell n
unfolding behind
ldc2_row at n = refl

pub int_local_row : (at : ℕ) (access : Access) (n : ℕ) → behind at (ops.IntLocal (locals.At access n)) ≡ u1.spell n
unfolding behind
int_local_row at access n = refl

pub long_local_row : (at : ℕ) (access : Access) (n : ℕ) → behind at (ops.LongLocal (locals.At access n)) ≡ u1.spell n
unfolding behind
long_local_row at access n = refl

pub ref_local_row : (at : ℕ) (access : Access) (n : ℕ) → behind at (ops.RefLocal (locals.At access n)) ≡ u1.spell n
unfolding behind
ref_local_row at access n = refl

pub iinc_row : (at : ℕ) (n : ℕ) (by : ℤ) → behind at (ops.Iinc n by) ≡ n ∷ i1.spell by
unfolding behind
iinc_row at n by = refl

pub if_zero_row : (at : ℕ) (test : Compare) (by : ℤ) → behind at (ops.If test by) ≡ i2.spell by
unfolding behind
if_zero_row at test by = refl

pub if_int_row : (at : ℕ) (test : Compare) (by : ℤ) → behind at (ops.IfInt test by) ≡ i2.spell by
unfolding behind
if_int_row at test by = refl

pub if_ref_row : (at : ℕ) (test : RefTest) (by : ℤ) → behind at (ops.IfRef test by) ≡ i2.spell by
unfolding behind
if_ref_row at test by = refl

pub goto_row : (at : ℕ) (by : ℤ) → behind at (ops.Goto (gotos.Narrow by)) ≡ i2.spell by
unfolding behind
goto_row at by = refl

pub goto_wide_row : (at : ℕ) (by : ℤ) → behind at (ops.Goto (gotos.Wide by)) ≡ i4.spell by
unfolding behind
goto_wide_row at by = refl

pub field_row : (at : ℕ) (op : FieldOp) (n : ℕ) → behind at (ops.Field op n) ≡ u2.spell n
unfolding behind
field_row at op n = refl

pub call_row : (at : ℕ) (op : CallOp) (n : ℕ) → behind at (ops.Call op n) ≡ u2.spell n
unfolding behind
call_row at op n = refl

pub call_interface_row : (at : ℕ) (n slots : ℕ) → behind at (ops.CallInterface n slots) ≡ interface_call.spell (n, slots)
unfolding behind
call_interface_row at n slots = refl

pub new_object_row : (at : ℕ) (n : ℕ) → behind at (ops.New (news.Object n)) ≡ u2.spell n
unfolding behind
new_object_row at n = refl

pub new_array_row : (at : ℕ) (element : ArrayType) → behind at (ops.New (news.Array element)) ≡ array_type.spell element
unfolding behind
new_array_row at element = refl

pub new_ref_array_row : (at : ℕ) (n : ℕ) → behind at (ops.New (news.RefArray n)) ≡ u2.spell n
unfolding behind
new_ref_array_row at n = refl

pub cast_row : (at : ℕ) (op : CastOp) (n : ℕ) → behind at (ops.Cast op n) ≡ u2.spell n
unfolding behind
cast_row at op n = refl

pub wide_one_row : (at : ℕ) (w : Wide) → behind at (ops.Wide w) ≡ wide.spell w
unfolding behind
wide_one_row at w = refl

pub nop_row : (at : ℕ) → behind at ops.Nop ≡ []
unfolding behind
nop_row at = refl

pub null_row : (at : ℕ) → behind at ops.AconstNull ≡ []
unfolding behind
null_row at = refl

pub small_row : (at : ℕ) (n : SmallInt) → behind at (ops.IntConst (consts.Small n)) ≡ []
unfolding behind
small_row at n = refl

pub long_const_row : (at : ℕ) (n : SmallLong) → behind at (ops.LongConst n) ≡ []
unfolding behind
long_const_row at n = refl

pub int_slot_row : (at : ℕ) (access : Access) (slot : Slot) → behind at (ops.IntLocal (locals.Slot access slot)) ≡ []
unfolding behind
int_slot_row at access slot = refl

pub long_slot_row : (at : ℕ) (access : Access) (slot : Slot) → behind at (ops.LongLocal (locals.Slot access slot)) ≡ []
unfolding behind
long_slot_row at access slot = refl

pub ref_slot_row : (at : ℕ) (access : Access) (slot : Slot) → behind at (ops.RefLocal (locals.Slot access slot)) ≡ []
unfolding behind
ref_slot_row at access slot = refl

pub array_load_row : (at : ℕ) (element : Element) → behind at (ops.ArrayLoad element) ≡ []
unfolding behind
array_load_row at element = refl

pub array_store_row : (at : ℕ) (element : Element) → behind at (ops.ArrayStore element) ≡ []
unfolding behind
array_store_row at element = refl

pub stack_row : (at : ℕ) (op : Shuffle) → behind at (ops.Stack op) ≡ []
unfolding behind
stack_row at op = refl

pub two_row : (at : ℕ) (op : OpTwo) → behind at (ops.Two op) ≡ []
unfolding behind
two_row at op = refl

pub divide_row : (at : ℕ) (op : Division) → behind at (ops.Divide op) ≡ []
unfolding behind
divide_row at op = refl

pub one_row : (at : ℕ) (op : OpOne) → behind at (ops.One op) ≡ []
unfolding behind
one_row at op = refl

pub return_row : (at : ℕ) (kind : Returned) → behind at (ops.Return kind) ≡ []
unfolding behind
return_row at kind = refl

pub object_row : (at : ℕ) (op : ObjectOp) → behind at (ops.Object op) ≡ []
unfolding behind
object_row at op = refl

pub table_row : (at : ℕ) (s : TableSwitch) → behind at (ops.Switch (switches.Table s)) ≡ (table_switch at).spell s
unfolding behind
table_row at s = refl

pub table_fits_row : (at : ℕ) (s : TableSwitch) → behind_fits at (ops.Switch (switches.Table s)) ≡ (table_switch at).fits s
unfolding behind_fits
table_fits_row at s = refl

pub lookup_row : (at : ℕ) (s : LookupSwitch) → behind at (ops.Switch (switches.Lookup s)) ≡ (lookup_switch at).spell s
unfolding behind
lookup_row at s = refl

pub lookup_fits_row : (at : ℕ) (s : LookupSwitch) → behind_fits at (ops.Switch (switches.Lookup s)) ≡ (lookup_switch at).fits s
unfolding behind_fits
lookup_fits_row at s = refl

pub ruleset rows = (bipush_row, sipush_row, ldc_row, ldc_wide_row, ldc2_row, int_local_row, long_local_row, ref_local_row, iinc_row, if_zero_row, if_int_row, if_ref_row, goto_row, goto_wide_row, field_row, call_row, call_interface_row, new_object_row, new_array_row, new_ref_array_row, cast_row, wide_one_row, nop_row, null_row, small_row, long_const_row, int_slot_row, long_slot_row, ref_slot_row, array_load_row, array_store_row, stack_row, two_row, divide_row, one_row, return_row, object_row, append-nil, append_assoc)

pub ruleset switch_rows = (table_row, table_fits_row, lookup_row, lookup_fits_row)

-- ---- reading

pub read_bipush : (at : ℕ) (bytes : List ℕ) → read_behind at (heads.Other other.Bipush) bytes ≡ (i1.read bytes >>= λ x. Ok (op_from (heads.Other other.Bipush) x.0, x.1))
unfolding read_behind
read_bipush at bytes = refl

pub read_sipush : (at : ℕ) (bytes : List ℕ) → read_behind at (heads.Other other.Sipush) bytes ≡ (i2.read bytes >>= λ x. Ok (op_from (heads.Other other.Sipush) x.0, x.1))
unfolding read_behind
read_sipush at bytes = refl

pub read_iinc : (at : ℕ) (bytes : List ℕ) → read_behind at (heads.Other other.Iinc) bytes ≡ ((u1 · i1).read bytes >>= λ x. Ok (op_from (heads.Other other.Iinc) x.0, x.1))
unfolding read_behind
read_iinc at bytes = refl

pub read_table_switch : (at : ℕ) (bytes : List ℕ) → read_behind at (heads.Other other.TableSwitch) bytes ≡ ((table_switch at).read bytes >>= λ x. Ok (op_from (heads.Other other.TableSwitch) x.0, x.1))
unfolding read_behind
read_table_switch at bytes = refl

pub read_lookup_switch : (at : ℕ) (bytes : List ℕ) → read_behind at (heads.Other other.LookupSwitch) bytes ≡ ((lookup_switch at).read bytes >>= λ x. Ok (op_from (heads.Other other.LookupSwitch) x.0, x.1))
unfolding read_behind
read_lookup_switch at bytes = refl

pub read_call_interface : (at : ℕ) (bytes : List ℕ) → read_behind at (heads.Other other.CallInterface) bytes ≡ (interface_call.read bytes >>= λ x. Ok (op_from (heads.Other other.CallInterface) x.0, x.1))
unfolding read_behind
read_call_interface at bytes = refl

pub read_new_array : (at : ℕ) (bytes : List ℕ) → read_behind at (heads.Other other.NewArray) bytes ≡ (array_type.read bytes >>= λ x. Ok (op_from (heads.Other other.NewArray) x.0, x.1))
unfolding read_behind
read_new_array at bytes = refl

pub read_wide : (at : ℕ) (bytes : List ℕ) → read_behind at (heads.Other other.Wide) bytes ≡ (wide.read bytes >>= λ x. Ok (op_from (heads.Other other.Wide) x.0, x.1))
unfolding read_behind
read_wide at bytes = refl

pub read_goto_wide : (at : ℕ) (bytes : List ℕ) → read_behind at (heads.Other other.GotoWide) bytes ≡ (i4.read bytes >>= λ x. Ok (op_from (heads.Other other.GotoWide) x.0, x.1))
unfolding read_behind
read_goto_wide at bytes = refl

pub ruleset read_others = (read_bipush, read_sipush, read_iinc, read_table_switch, read_lookup_switch, read_call_interface, read_new_array, read_wide, read_goto_wide)

pub read_plain : (at : ℕ) (h : OneByteOp) (bytes : List ℕ) → read_behind at (heads.Plain h) bytes ≡ Ok (op_from (heads.Plain h) tt, bytes)
unfolding read_behind
read_plain at h bytes = refl

pub read_byte : (at : ℕ) (h : ByteHead) (bytes : List ℕ) → read_behind at (heads.Byte h) bytes ≡ (u1.read bytes >>= λ x. Ok (op_from (heads.Byte h) x.0, x.1))
unfolding read_behind
read_byte at h bytes = refl

pub read_index : (at : ℕ) (h : IndexHead) (bytes : List ℕ) → read_behind at (heads.Index h) bytes ≡ (u2.read bytes >>= λ x. Ok (op_from (heads.Index h) x.0, x.1))
unfolding read_behind
read_index at h bytes = refl

pub read_branch : (at : ℕ) (h : BranchHead) (bytes : List ℕ) → read_behind at (heads.Branch h) bytes ≡ (i2.read bytes >>= λ x. Ok (op_from (heads.Branch h) x.0, x.1))
unfolding read_behind
read_branch at h bytes = refl

pub ruleset read_heads = (read_plain, read_byte, read_index)
