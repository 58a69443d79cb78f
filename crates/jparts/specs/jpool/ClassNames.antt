-- Class names (JVMS 4.2.1).
use Rattle.std.specs.Prelude.{ℕ, Bool, false, ◌||◌, not, List, [], ◌==◌}
use Rattle.std.specs.List.{list_all, slice_split}
use Rattle.std.specs.Str.{byte}

abbrev pub is_slash : ℕ → Bool
is_slash b = b == byte "/"

-- any byte but '.', ';' and '['
abbrev pub is_name_byte : ℕ → Bool
is_name_byte b = not (b == byte "." || b == byte ";" || b == byte "[")

abbrev pub is_part : List ℕ → Bool
is_part = elim [ [] ↦ false | part ↦ list_all is_name_byte part ]

-- one or more parts joined by '/'
unfoldable pub is_class_name : List ℕ → Bool
is_class_name text = list_all is_part (slice_split is_slash text)
