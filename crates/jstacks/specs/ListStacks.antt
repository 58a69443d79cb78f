-- Lists one on the other.
use Rattle.std.specs.Prelude.{ℕ, ◌-◌, List, [], ◌∷◌, ◌++◌, length, replicate, reverse}

-- the newest list, and the lists below it, the newest of them first; each with its newest item first
pub record Piled (T : Type 0) : Type 0 where
  pub newest : List T
  pub below : List (List T)

-- an empty list alone
abbrev pub bare : {T : Type 0} → Piled T
bare = record { newest = []; below = [] }

-- the newest list, its oldest item first
abbrev pub from_oldest : {T : Type 0} → Piled T → List T
from_oldest p = reverse p.newest

-- items, and behind them another so often that there are this many
abbrev pub padded : {T : Type 0} → ℕ → T → List T → List T
padded len rest items = items ++ replicate (len - length items) rest

-- one more list
abbrev pub on_top : {T : Type 0} → List T → Piled T → Piled T
on_top items p = record { newest = items; below = p.newest ∷ p.below }

-- another list in the place of the newest
abbrev pub with_newest : {T : Type 0} → List T → Piled T → Piled T
with_newest items p = record { newest = items; below = p.below }

-- these lists, of which there is always one
abbrev pub of_lists : {T : Type 0} → List (List T) → Piled T
of_lists [] = bare
of_lists (items ∷ below) = record { newest = items; below = below }

-- the newest list is taken away; of a list alone its items
abbrev pub closed : {T : Type 0} → Piled T → Piled T
closed p = of_lists p.below
