-- What stands for `${name}` in the strings of a policy file (policy file documentation, "Property Expansion").
use Rattle.std.specs.Prelude.{ℕ, Bool, false, ◌&&◌, ◌||◌, ◌==◌, List, [], ◌∷◌, ◌++◌, ◌+◌, length, take, drop, Option, Some, None, Ok, if◌then◌else◌, nat_eq, codes, position}
use Rattle.std.specs.List.{starts_with}
use Rattle.std.specs.Option.{ok_or}
use Rattle.std.specs.Result.{result_ok}
use Rattle.std.specs.Str.{bytes_eq, byte}
use Rattle.jground.specs.jbase.MemoryFailures.{◌>>=◌}
use Rattle.jpolicy.specs.Strings.{Part}
use Rattle.jpolicy.specs.ListWalks.{none_left, walk}

-- names and values of properties
abbrev pub Properties : Type 0
Properties = List (List ℕ × List ℕ)

-- the value of the first property of a name
unfoldable pub look_up : Properties → List ℕ → Option (List ℕ)
look_up [] name = None
look_up (p ∷ ps) name = if bytes_eq p.0 name then Some p.1 else look_up ps name

-- what a name stands for: `/` for itself, an empty one for nothing, and any other for the property's value
abbrev pub value_of : Properties → List ℕ → Option (List ℕ)
value_of properties name = if bytes_eq name (codes "/") then Some (codes "/") else (if length name == 0 then None else look_up properties name)

-- a name behind `${`, which ends at the place of the first `}`; where there is none, the text stands as it is written
abbrev pub named_up_to : Properties → List ℕ → List ℕ → Option ℕ → Part (List ℕ)
named_up_to properties written text (Some end) = ok_or (value_of properties (take end text)) tt >>= λ value. Ok (value, drop (end + 1) text)
named_up_to properties written text None = Ok (written, [])

-- what is put for the front of a text, and the rest of it: a unit stands for itself, and `${` begins a name
unfoldable pub piece_at : Properties → List ℕ → Part (List ℕ)
piece_at properties [] = Ok ([], [])
piece_at properties (u ∷ []) = Ok (u ∷ [], [])
piece_at properties (u ∷ v ∷ us) =
    if (u == byte "$") && (v == byte "{") then named_up_to properties (u ∷ v ∷ us) us (position (λ u. u == byte "}") us) else Ok (u ∷ [], v ∷ us)

abbrev pub one_piece : Properties → List ℕ → List ℕ → Part (List ℕ)
one_piece properties done text = piece_at properties text >>= λ x. Ok (done ++ x.0, x.1)

-- the text with each name replaced by what it stands for, or none where a property is missing; values are not expanded again
unfoldable pub expanded : Properties → List ℕ → Option (List ℕ)
expanded properties text = result_ok (walk none_left (one_piece properties) (length text) [] text >>= λ x. Ok x.0)

-- whether `${{` stands in a text
unfoldable pub expands_itself : List ℕ → Bool
expands_itself [] = false
expands_itself (u ∷ us) = starts_with nat_eq (u ∷ us) (codes "${{") || expands_itself us
