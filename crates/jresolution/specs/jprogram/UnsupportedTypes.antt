-- The types of descriptors that a job's class files don't have, or not everywhere.
use Rattle.std.specs.Prelude.{ℕ, Bool, ◌||◌, ◌==◌, List, codes}
use Rattle.std.specs.Str.{byte, bytes_eq}
use Rattle.jparts.specs.declared.jpool.descriptor.FieldType.{FieldType}

-- the class of security contexts
abbrev pub context : List ℕ
context = codes "sps/Ctx"

-- it, or an array of it
abbrev pub is_context : FieldType → Bool
is_context t = bytes_eq t.class context

-- a float or a double, or an array of them
abbrev pub is_floating : FieldType → Bool
is_floating t = t.base == byte "F" || t.base == byte "D"
