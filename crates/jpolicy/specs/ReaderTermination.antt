-- Each walk of the reader of policy files ends at its test, at a fault, or with nothing left: none ends for want of steps.
use Rattle.std.specs.Prelude.{ℕ, List, [], length}
use Rattle.std.specs.Str.{byte}
use Rattle.jpolicy.specs.declared.token.Placed.{Placed}
use Rattle.jpolicy.specs.ListWalks.{Ends, none_left, walk}
use Rattle.jpolicy.specs.Tokens.{more_at}
use Rattle.jpolicy.specs.Strings.{at_quote, one_more}
use Rattle.jpolicy.specs.Expansion.{Properties, one_piece}
use Rattle.jpolicy.specs.Productions.{next, is_mark, no_clauses, one_clause, one_entry, one_item}

-- the walk over a text, which gives its tokens
abbrev pub TextEnds : Type 0
TextEnds = (text : List ℕ) → Ends none_left (walk none_left more_at (length text) [] text)

-- the walk over the characters of a string, up to its quote
abbrev pub StringEnds : Type 0
StringEnds = (text : List ℕ) → Ends at_quote (walk at_quote one_more (length text) [] text)

-- the walk over a string's text, which puts the properties in
abbrev pub ExpansionEnds : Type 0
ExpansionEnds = (properties : Properties) (text : List ℕ) → Ends none_left (walk none_left (one_piece properties) (length text) [] text)

-- the walk over a grant's clauses, up to the brace that opens
abbrev pub ClausesEnd : Type 0
ClausesEnd = (properties : Properties) (ts : List Placed) →
    Ends (next (is_mark (byte "{"))) (walk (next (is_mark (byte "{"))) (one_clause properties) (length ts) no_clauses ts)

-- the walk over a grant's entries, up to the brace that closes
abbrev pub EntriesEnd : Type 0
EntriesEnd = (properties : Properties) (ts : List Placed) →
    Ends (next (is_mark (byte "}"))) (walk (next (is_mark (byte "}"))) (one_entry properties) (length ts) [] ts)

-- the walk over all items
abbrev pub ItemsEnd : Type 0
ItemsEnd = (properties : Properties) (ts : List Placed) → Ends none_left (walk none_left (one_item properties) (length ts) [] ts)
