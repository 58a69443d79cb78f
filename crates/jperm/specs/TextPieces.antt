-- The pieces of a text.
use Rattle.std.specs.Prelude.{ℕ, List, [], Option, Some, None, nat_eq}
use Rattle.std.specs.List.{slice_split}

-- the pieces of a text between the units at which it is split; there is one more than there are such units
abbrev pub pieces : ℕ → List ℕ → List (List ℕ)
pieces at text = slice_split (λ u. nat_eq u at) text

-- the pieces of a text that may be there
abbrev pub pieces_if : ℕ → Option (List ℕ) → List (List ℕ)
pieces_if at None = []
pieces_if at (Some text) = pieces at text
