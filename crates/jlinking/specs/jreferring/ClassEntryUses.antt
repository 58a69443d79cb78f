-- What a Class entry may be used for: as the operand of an instruction, as a catch type and in a frame (JVMS 4.7.3, 4.7.4, 6.5).
use Rattle.std.specs.Prelude.{ℕ, Bool, ◌&&◌, ◌||◌, List, Option}
use Rattle.jground.specs.jbase.FirstFaults.{fault_if, or_else}
use Rattle.jparts.specs.declared.jpool.descriptor.FieldType.{FieldType}
use Rattle.jresolution.specs.declared.jprogram.fault.LinkKind.{LinkKind}
use Rattle.jresolution.specs.declared.jprogram.fault.LinkKind.TheVariants.{BadUse, LeftOut}
use Rattle.jresolution.specs.jprogram.UnsupportedTypes.{is_context, is_floating}
use Rattle.jresolution.specs.jprogram.ProgramClasses.{Class, Program, find, holds, is_abstract, is_interface}
use Rattle.jlinking.specs.declared.jreferring.judged.ClassUse.{ClassUse}
use Rattle.jlinking.specs.jreferring.ClassNameAccess.{is_array, type_named, type_test}

-- ---- types that are left out

-- an array of contexts, of floats or of doubles
unfoldable pub is_barred_array : FieldType → Bool
is_barred_array t = is_array t && (is_context t || is_floating t)

-- the class of contexts may stand in a frame, and nowhere else
unfoldable pub is_barred_operand : FieldType → Bool
is_barred_operand t = is_context t || is_barred_array t

-- ---- classes without objects

abbrev pub is_unmade : Class → Bool
is_unmade c = is_abstract c || is_interface c

-- an array, an abstract class or an interface
unfoldable pub is_no_maker : Program → FieldType → Bool
is_no_maker p t = is_array t || holds is_unmade (find p t.class)

-- ---- a Class entry, seen from a class

abbrev pub type_use : Program → List ℕ → FieldType → ClassUse
type_use p from t = record { names = type_test p from t; barred = is_barred_operand t; barred_item = is_barred_array t; unmade = is_no_maker p t }

abbrev pub class_use : Program → List ℕ → List ℕ → ClassUse
class_use p from text = type_use p from (type_named text)

-- ---- the tests of its uses

-- checkcast, instanceof, anewarray, and what a handler catches
abbrev pub operand_test : ClassUse → Option LinkKind
operand_test u = or_else u.names (fault_if u.barred LeftOut)

-- new
abbrev pub new_test : ClassUse → Option LinkKind
new_test u = or_else (operand_test u) (fault_if u.unmade BadUse)
