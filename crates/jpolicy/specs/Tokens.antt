-- The tokens of a policy file (policy file documentation).
use Rattle.std.specs.Prelude.{ℕ, ◌&&◌, ◌==◌, List, [], ◌∷◌, ◌++◌, length, drop, Option, Some, None, Ok, Err, if◌then◌else◌}
use Rattle.std.specs.List.{flat_map, prefix_len, take_while, position_or_len}
use Rattle.std.specs.Str.{byte}
use Rattle.std.specs.Char.Escape.{encode_utf16}
use Rattle.jpolicy.specs.declared.token.Token.{Token}
use Rattle.jpolicy.specs.declared.token.Token.TheVariants.{Word, Text, Mark, Bad}
use Rattle.jpolicy.specs.declared.token.Placed.{Placed}
use Rattle.jpolicy.specs.Characters.{is_mark, is_word_character, ends_line, is_gap}
use Rattle.jpolicy.specs.Strings.{Part, string_at}
use Rattle.jpolicy.specs.ListWalks.{none_left, walk}

-- a token, or none where only tokens are separated, and the characters behind it
abbrev pub Lexeme : Type 0
Lexeme = Option Token × List ℕ

abbrev pub token : Token → List ℕ → Lexeme
token one rest = (Some one, rest)

abbrev pub gap : List ℕ → Lexeme
gap rest = (None, rest)

-- what begins no token; nothing behind it is looked at
abbrev pub bad : Lexeme
bad = (Some Bad, [])

-- what lies behind the end of a comment, if it ends
unfoldable pub behind_comment : List ℕ → Option (List ℕ)
behind_comment [] = None
behind_comment (c ∷ []) = None
behind_comment (c ∷ d ∷ cs) = if (c == byte "*") && (d == byte "/") then Some cs else behind_comment (d ∷ cs)

abbrev pub closed : Option (List ℕ) → Lexeme
closed = elim [ Some rest ↦ gap rest | None ↦ bad ]

-- a comment, behind its first slash
unfoldable pub comment_at : List ℕ → Lexeme
comment_at [] = bad
comment_at (c ∷ cs) = if c == byte "/" then gap (drop (position_or_len ends_line cs) cs) else
    (if c == byte "*" then closed (behind_comment cs) else bad)

-- all characters of a word, in UTF-16 units
abbrev pub word_at : List ℕ → Lexeme
word_at text = token (Word (flat_map encode_utf16 (take_while is_word_character text))) (drop (prefix_len is_word_character text) text)

-- a token or a separator at the front of a text
unfoldable pub lexeme_at : ℕ → List ℕ → Lexeme
lexeme_at c cs =
    if is_gap c then gap cs else
    (if is_mark c then token (Mark c) cs else
    (if is_word_character c then word_at (c ∷ cs) else
    (if c == byte "\"" then (elim (string_at cs) [ Ok x ↦ token (Text x.0) x.1 | Err e ↦ bad ]) else
    (if c == byte "/" then comment_at cs else bad))))

-- tokens, and the one of a lexeme behind them, with the number of characters from its first one to the end of the text
abbrev pub with_lexeme : List Placed → ℕ → Lexeme → Part (List Placed)
with_lexeme tokens left (Some one, rest) = Ok (tokens ++ record { left = left; token = one } ∷ [], rest)
with_lexeme tokens left (None, rest) = Ok (tokens, rest)

-- the tokens in front, and one lexeme more
abbrev pub more_at : List Placed → List ℕ → Part (List Placed)
more_at tokens = elim [ [] ↦ Ok (tokens, []) | c ∷ cs ↦ with_lexeme tokens (length (c ∷ cs)) (lexeme_at c cs) ]

-- all tokens of a text in order; one that is bad is the last
unfoldable pub tokens : List ℕ → List Placed
tokens text = elim (walk none_left more_at (length text) [] text) [ Ok x ↦ x.0 | Err e ↦ [] ]
