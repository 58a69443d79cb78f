-- The characters of a policy file (policy file documentation).
use Rattle.std.specs.Prelude.{ℕ, Bool, ◌&&◌, ◌||◌, ◌==◌, nat_le}
use Rattle.std.specs.Char.{is_ascii_alphanumeric}
use Rattle.std.specs.Str.{byte}

-- whether a character separates tokens: a blank or a control
abbrev pub is_gap : ℕ → Bool
is_gap c = nat_le c (byte " ")

-- whether a line ends at a character: a line feed or a carriage return
abbrev pub ends_line : ℕ → Bool
ends_line c = (c == byte "\n") || (c == byte "\r")

-- whether a character may stand in a word: letters, digits, `.`, `_`, `$`, and all from U+00A0 on
abbrev pub is_word_character : ℕ → Bool
is_word_character c = is_ascii_alphanumeric c || (c == byte ".") || (c == byte "_") || (c == byte "$") || nat_le 0xa0 c

-- whether a character is a token by itself
abbrev pub is_mark : ℕ → Bool
is_mark c = (c == byte "{") || (c == byte "}") || (c == byte ",") || (c == byte ";") || (c == byte "*")

abbrev pub is_octal : ℕ → Bool
is_octal c = nat_le (byte "0") c && nat_le c (byte "7")
