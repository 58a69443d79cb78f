-- Descriptors without float and double: those of all members of a program that links.
use Rattle.std.specs.Prelude.{◌≡◌, ℕ, Bool, true, false, ◌||◌, not, List, Option, Some, None}
use Rattle.std.specs.List.{list_any}
use Rattle.jparts.specs.declared.jpool.descriptor.Descriptor.{Descriptor}
use Rattle.jparts.specs.declared.jpool.descriptor.Descriptor.TheVariants as descriptors
use Rattle.jparts.specs.declared.jpool.descriptor.FieldType.{FieldType}
use Rattle.jparts.specs.jpool.Descriptors.{descriptor_of}
use Rattle.jresolution.specs.jprogram.UnsupportedTypes.{is_floating}

abbrev pub gives_float : Option FieldType → Bool
gives_float None = false
gives_float (Some t) = is_floating t

-- the descriptor of a field
abbrev pub is_sound_field : Option Descriptor → Bool
is_sound_field (Some (descriptors.Field t)) = not (is_floating t)
is_sound_field d = false

-- the descriptor of a method
abbrev pub is_sound_method : Option Descriptor → Bool
is_sound_method (Some (descriptors.Method params ret)) = not (list_any is_floating params || gives_float ret)
is_sound_method d = false

abbrev pub IsFieldText : List ℕ → Type 0
IsFieldText desc = is_sound_field (descriptor_of desc) ≡ true

abbrev pub IsMethodText : List ℕ → Type 0
IsMethodText desc = is_sound_method (descriptor_of desc) ≡ true
