-- Pairs in regions, one behind the other.
use Rattle.std.specs.Prelude.{◌≡◌, ⊤, ◌≤◌, List, [], ◌∷◌, ◌++◌, length}
use Rattle.jinterned.specs.declared.pairs.Pair.{Pair}

-- the pairs of all regions
abbrev pub all_of : List (List Pair) → List Pair
all_of [] = []
all_of (region ∷ more) = region ++ all_of more

-- A region holds 65,536 pairs where another one follows it, and else no more.
abbrev pub IsFilled : List Pair → List (List Pair) → Type 0
IsFilled region [] = length region ≤ 65536
IsFilled region (next ∷ more) = length region ≡ 65536

abbrev pub AreFilled : List (List Pair) → Type 0
AreFilled [] = ⊤
AreFilled (region ∷ more) = IsFilled region more × AreFilled more
