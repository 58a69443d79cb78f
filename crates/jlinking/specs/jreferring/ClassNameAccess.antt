-- The classes that entries and descriptors name, and who may name them (JVMS 4.3, 4.4.1, 5.4.3.1, 5.4.4).
use Rattle.std.specs.Prelude.{ℕ, Bool, not, List, Option, Some, None, nat_lt, if◌then◌else◌}
use Rattle.std.specs.Str.{byte}
use Rattle.jground.specs.jbase.FirstFaults.{fault_if, first_some, or_else}
use Rattle.jparts.specs.declared.jpool.descriptor.Descriptor.{Descriptor}
use Rattle.jparts.specs.declared.jpool.descriptor.Descriptor.TheVariants as descriptors
use Rattle.jparts.specs.declared.jpool.descriptor.FieldType.{FieldType}
use Rattle.jparts.specs.jpool.Descriptors.{descriptor_of, is_class_sign}
use Rattle.jresolution.specs.declared.jprogram.fault.LinkKind.{LinkKind}
use Rattle.jresolution.specs.declared.jprogram.fault.LinkKind.TheVariants.{NoClass, NotAccessible}
use Rattle.jresolution.specs.jprogram.ProgramClasses.{Program}
use Rattle.jresolution.specs.jprogram.MemberResolution.{may_name}
use Rattle.jresolution.specs.jprogram.SuperChecks.{is_missing}

-- ---- what a Class entry stands for

abbrev pub is_array : FieldType → Bool
is_array t = nat_lt 0 t.depth

abbrev pub class_type : List ℕ → FieldType
class_type name = record { depth = 0; base = byte "L"; class = name }

abbrev pub array_or : List ℕ → Option Descriptor → FieldType
array_or name (Some (descriptors.Field t)) = if is_array t then t else class_type name
array_or name _ = class_type name

-- the array type of which its text is the descriptor, else the class of this name
unfoldable pub type_named : List ℕ → FieldType
type_named text = array_or text (descriptor_of text)

-- ---- the first class that may not be named

-- a class that isn't there, or that the class `from` may not name
unfoldable pub class_test : Program → List ℕ → List ℕ → Option LinkKind
class_test p from name = or_else (fault_if (is_missing p name) NoClass) (fault_if (not (may_name p from name)) NotAccessible)

-- an array names the class of its element; numbers name none
unfoldable pub type_test : Program → List ℕ → FieldType → Option LinkKind
type_test p from t = if is_class_sign t.base then class_test p from t.class else None

abbrev pub return_test : Program → List ℕ → Option FieldType → Option LinkKind
return_test p from = elim [ None ↦ None | Some t ↦ type_test p from t ]

-- the types of a method's parameters, from left to right
abbrev pub params_test : Program → List ℕ → Option Descriptor → Option LinkKind
params_test p from (Some (descriptors.Method params ret)) = first_some (type_test p from) params
params_test p from _ = None

-- from left to right
abbrev pub desc_test : Program → List ℕ → Option Descriptor → Option LinkKind
desc_test p from None = None
desc_test p from (Some (descriptors.Field t)) = type_test p from t
desc_test p from (Some (descriptors.Method params ret)) = or_else (first_some (type_test p from) params) (return_test p from ret)
