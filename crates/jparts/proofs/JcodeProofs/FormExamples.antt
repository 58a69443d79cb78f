-- Forms of instructions, and what they take and give, computed.
use Rattle.std.proofs.Common.{◌≡◌, [], ◌∷◌, Some, None, refl}
use Rattle.std.specs.Prelude.{pos, negsuc}
use Rattle.jparts.specs.declared.jcode.names.LocalKind.TheVariants as locals
use Rattle.jparts.specs.declared.jcode.names.Access.TheVariants.{Load, Store}
use Rattle.jparts.specs.declared.jcode.names.Slot.TheVariants as slots
use Rattle.jparts.specs.declared.jcode.names.SmallInt.TheVariants as ints
use Rattle.jparts.specs.declared.jcode.names.Element.TheVariants as elements
use Rattle.jvalues.specs.declared.jnames.names.OpTwo.TheVariants.{Lshl, Lcmp}
use Rattle.jvalues.specs.declared.jnames.names.Shuffle.{Shuffle}
use Rattle.jparts.specs.declared.jcode.names.FieldOp.TheVariants.{PutField}
use Rattle.jparts.specs.declared.jcode.op.Op.TheVariants as ops
use Rattle.jparts.specs.declared.jcode.op.IntConst.TheVariants as consts
use Rattle.jparts.specs.declared.jcode.op.Ldc.TheVariants as ldcs
use Rattle.jparts.specs.declared.jcode.op.LocalOp.TheVariants as moves
use Rattle.jparts.specs.declared.jcode.op.Goto.TheVariants as gotos
use Rattle.jparts.specs.declared.jcode.op.Wide.TheVariants as wides
use Rattle.jvalues.specs.declared.jnames.kinds.Kind.TheVariants as kinds
use Rattle.jvalues.specs.declared.jnames.kinds.Kinds.TheVariants as taken
use Rattle.jvalues.specs.jnames.Effects.{gives, takes}
use Rattle.jparts.specs.jcode.InstructionForms.{form, effect, listed}

-- ---- one form for all spellings

-- iload_1, iload 1 and wide iload 1
one_load : form (ops.IntLocal (moves.Slot Load slots.One)) ≡ form (ops.Wide (wides.Local locals.Int Load 1))
unfolding form
one_load = refl

numbered_load : form (ops.IntLocal (moves.At Load 1)) ≡ form (ops.Wide (wides.Local locals.Int Load 1))
unfolding form
numbered_load = refl

-- astore_3 and wide astore 3
one_store : form (ops.RefLocal (moves.Slot Store slots.Three)) ≡ form (ops.Wide (wides.Local locals.Ref Store 3))
unfolding form
one_store = refl

-- iconst_3, bipush 3 and sipush 3
one_constant : form (ops.IntConst (consts.Small ints.Three)) ≡ form (ops.IntConst (consts.Byte (pos 3)))
unfolding form
one_constant = refl

other_constant : form (ops.IntConst (consts.Small ints.Three)) ≡ form (ops.IntConst (consts.Short (pos 3)))
unfolding form
other_constant = refl

-- goto and goto_w, five bytes back
one_goto : form (ops.Goto (gotos.Narrow (negsuc 4))) ≡ form (ops.Goto (gotos.Wide (negsuc 4)))
unfolding form
one_goto = refl

-- ldc and ldc_w
one_ldc : form (ops.Ldc (ldcs.Narrow 7)) ≡ form (ops.Ldc (ldcs.Wide 7))
unfolding form
one_ldc = refl

-- iinc and wide iinc
one_increment : form (ops.Iinc 1 (negsuc 0)) ≡ form (ops.Wide (wides.Iinc 1 (negsuc 0)))
unfolding form
one_increment = refl

-- ---- what is taken and given

-- lastore takes a long, an int and an array, and gives nothing
stored : effect (form (ops.ArrayStore elements.Long)) ≡ Some (takes (taken.Three kinds.Long kinds.Int kinds.Array))
unfolding form effect
stored = refl

stored_list : listed (taken.Three kinds.Long kinds.Int kinds.Array) ≡ kinds.Long ∷ kinds.Int ∷ kinds.Array ∷ []
stored_list = refl

-- lshl takes an int and below it a long
shifted : effect (form (ops.Two Lshl)) ≡ Some (gives (taken.Two kinds.Int kinds.Long) kinds.Long)
unfolding form effect
shifted = refl

-- lcmp gives an int
order : effect (form (ops.Two Lcmp)) ≡ Some (gives (taken.Two kinds.Long kinds.Long) kinds.Int)
unfolding form effect
order = refl

-- what putfield takes is said by its entry of the pool
put : effect (form (ops.Field PutField 9)) ≡ None
unfolding form effect
put = refl

-- moves of the stack have no kinds of their own
moved : (op : Shuffle) → effect (form (ops.Stack op)) ≡ None
unfolding form effect
moved op = refl
