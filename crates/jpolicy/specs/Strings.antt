-- The text of a string of a policy file, behind its first quote (policy file documentation).
use Rattle.std.specs.Prelude.{ℕ, Bool, false, ◌||◌, ◌==◌, List, [], ◌∷◌, ◌++◌, length, Result, Ok, Err, if◌then◌else◌}
use Rattle.std.specs.Str.{byte}
use Rattle.std.specs.Char.Escape.{encode_utf16}
use Rattle.jground.specs.jbase.MemoryFailures.{◌>>=◌}
use Rattle.jpolicy.specs.Characters.{ends_line, is_octal}
use Rattle.jpolicy.specs.ListWalks.{walk}

-- a value and the characters behind it; where none stands there, there is no more to say
abbrev pub Part : Type 0 → Type 0
Part A = Result (A × List ℕ) (Unit {0})

-- what a character stands for behind a backslash
abbrev pub meant : ℕ → ℕ
meant c = if c == byte "n" then byte "\n" else (if c == byte "r" then byte "\r" else (if c == byte "t" then byte "\t" else c))

-- an escape, behind its backslash; it is not octal, and the line doesn't end in it
abbrev pub escape_at : List ℕ → Part ℕ
escape_at = elim [ [] ↦ Err tt | c ∷ cs ↦ if ends_line c || is_octal c then Err tt else Ok (meant c, cs) ]

-- a character of a string, which stands for itself or begins an escape; the line doesn't end there
unfoldable pub character_at : List ℕ → Part ℕ
character_at = elim [ [] ↦ Err tt | c ∷ cs ↦ if ends_line c then Err tt else (if c == byte "\\" then escape_at cs else Ok (c, cs)) ]

abbrev pub at_quote : List ℕ → Bool
at_quote = elim [ [] ↦ false | c ∷ cs ↦ c == byte "\"" ]

-- one more character in UTF-16 units
abbrev pub one_more : List ℕ → List ℕ → Part (List ℕ)
one_more units text = character_at text >>= λ x. Ok (units ++ encode_utf16 x.0, x.1)

abbrev pub behind_quote : List ℕ → Part (Unit {0})
behind_quote = elim [ [] ↦ Err tt | c ∷ cs ↦ if c == byte "\"" then Ok (tt, cs) else Err tt ]

-- characters up to the quote that ends the string
unfoldable pub string_at : List ℕ → Part (List ℕ)
string_at text = walk at_quote one_more (length text) [] text >>= λ x. behind_quote x.1 >>= λ y. Ok (x.0, y.1)
