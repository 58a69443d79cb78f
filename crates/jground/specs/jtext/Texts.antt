-- The UTF-16 units of a text, and texts that differ in letter case alone.
use Rattle.std.specs.Prelude.{ℕ, Bool, List, map}
use Rattle.std.specs.List.{flat_map}
use Rattle.std.specs.Str.{chars, bytes_eq}
use Rattle.std.specs.Char.{to_ascii_lowercase}
use Rattle.std.specs.Char.Escape.{encode_utf16}

-- The units of the characters that bytes of UTF-8 spell, character by character (RFC 2781).
abbrev pub units_of_text : List ℕ → List ℕ
units_of_text bytes = flat_map encode_utf16 (chars bytes)

-- the same units, where the case of ASCII letters doesn't count
abbrev pub same_ignoring_case : List ℕ → List ℕ → Bool
same_ignoring_case a b = bytes_eq (map to_ascii_lowercase a) (map to_ascii_lowercase b)
