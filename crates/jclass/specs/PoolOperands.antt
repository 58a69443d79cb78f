-- What the instructions name in the pool (JVMS 6.5).
use Rattle.std.specs.Prelude.{ℕ, Bool, true, false, ◌||◌, List, Option, Some, None, slice_get, if◌then◌else◌}
use Rattle.jparts.specs.declared.jcode.names.CallOp.{CallOp}
use Rattle.jparts.specs.declared.jcode.names.CallOp.TheVariants.{Virtual}
use Rattle.jparts.specs.declared.jcode.op.Op.{Op}
use Rattle.jparts.specs.declared.jcode.op.Op.TheVariants as ops
use Rattle.jparts.specs.declared.jcode.op.Ldc.TheVariants as ldcs
use Rattle.jparts.specs.declared.jcode.op.NewOp.TheVariants as news
use Rattle.jparts.specs.declared.jcode.op.Placed.{Placed}
use Rattle.jparts.specs.declared.jpool.entry.Entry.{Entry}
use Rattle.jparts.specs.declared.jpool.entry.Entry.TheVariants.{Integer, Float, Long, Double, Class, Str, Field, Method, InterfaceMethod, MethodHandle, MethodType}
use Rattle.jparts.specs.jpool.ConstantPools.{is_class}
use Rattle.std.specs.Option.{option_map_or}

-- what ldc and ldc_w push
abbrev pub is_constant : Entry → Bool
is_constant = elim [ Integer n ↦ true | Float n ↦ true | Class n ↦ true | Str t ↦ true | MethodHandle k m ↦ true | MethodType d ↦ true | _ ↦ false ]

-- what ldc2_w pushes
abbrev pub is_wide_constant : Entry → Bool
is_wide_constant = elim [ Long n ↦ true | Double n ↦ true | _ ↦ false ]

abbrev pub is_field : Entry → Bool
is_field = elim [ Field class both ↦ true | _ ↦ false ]

abbrev pub is_method : Option Entry → Bool
is_method (Some (Method class both)) = true
is_method _ = false

abbrev pub is_interface_method : Option Entry → Bool
is_interface_method (Some (InterfaceMethod class both)) = true
is_interface_method _ = false

-- invokevirtual names a method of a class; invokespecial and invokestatic name one of a class or of an interface
abbrev pub is_called : CallOp → Option Entry → Bool
is_called x one = elim x [ Virtual ↦ is_method one | _ ↦ is_method one || is_interface_method one ]

-- whether an instruction names an entry of the kind that it must name
unfoldable pub names_well : List Entry → Op → Bool
names_well pool (ops.Ldc (ldcs.Narrow n)) = option_map_or is_constant (slice_get pool n) false
names_well pool (ops.Ldc (ldcs.Wide n)) = option_map_or is_constant (slice_get pool n) false
names_well pool (ops.Ldc2 n) = option_map_or is_wide_constant (slice_get pool n) false
names_well pool (ops.Field op n) = option_map_or is_field (slice_get pool n) false
names_well pool (ops.Call op n) = is_called op (slice_get pool n)
names_well pool (ops.CallInterface n slots) = is_interface_method (slice_get pool n)
names_well pool (ops.New (news.Object n)) = is_class pool n
names_well pool (ops.New (news.RefArray n)) = is_class pool n
names_well pool (ops.Cast op n) = is_class pool n
names_well pool _ = true

abbrev pub misnamed : List Entry → Placed → Option ℕ
misnamed pool p = if names_well pool p.op then None else Some p.at
