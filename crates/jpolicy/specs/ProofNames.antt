-- Names by which proofs and the contracts of inner functions call what the definitions say in place. What `javasec` and `dispatch` promise
-- reaches none of them.
use Rattle.std.specs.Prelude.{◌==◌, ℕ, Bool, true, false, List, Ok, if◌then◌else◌, Err}
use Rattle.std.specs.Str.{byte}
use Rattle.jground.specs.jbase.MemoryFailures.{◌>>=◌}
use Rattle.jpolicy.specs.declared.token.Token.{Token}
use Rattle.jpolicy.specs.declared.token.Token.TheVariants.{Word, Text}
use Rattle.jpolicy.specs.Expansion.{Properties}
use Rattle.jpolicy.specs.declared.grant.Grant.{Grant}
use Rattle.jpolicy.specs.declared.token.Placed.{Placed}
use Rattle.jpolicy.specs.Productions.{Answer, grant_at, with_one, next, is_mark, behind}
use Rattle.jpolicy.specs.Strings.{Part}
use Rattle.jpolicy.specs.Tokens.{Lexeme, token, bad}

-- ---- of Expansion

-- whether a unit closes a name
abbrev pub closes : ℕ → Bool
closes u = u == byte "}"

-- ---- of Productions

abbrev pub is_word : Token → Bool
is_word = elim [ Word units ↦ true | _ ↦ false ]

abbrev pub one_more_grant : Properties → List Grant → List Placed → Answer (List Grant)
one_more_grant properties grants ts = grant_at properties ts >>= λ g. Ok (with_one grants g.0, g.1)

-- what is behind a comma, if one stands there
abbrev pub skip_comma : List Placed → List Placed
skip_comma ts = if next (is_mark (byte ",")) ts then behind ts else ts

-- ---- of Tokens

abbrev pub quoted : Part (List ℕ) → Lexeme
quoted (Ok (units, rest)) = token (Text units) rest
quoted (Err e) = bad
