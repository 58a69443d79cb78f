-- How the lists lie in one list of items, the oldest item first: by the places where they begin.
use Rattle.std.specs.Prelude.{◌≡◌, ◌≤◌, ℕ, List, [], ◌∷◌, take, drop, reverse}
use Rattle.jstacks.specs.ListStacks.{Piled}

-- the lists that begin at these places, the newest first
unfoldable pub lists_of : {T : Type 0} → List ℕ → List T → List (List T)
lists_of [] items = []
lists_of (start ∷ starts) items = reverse (drop start items) ∷ lists_of starts (take start items)

-- the newest list begins at a place, and those below it at others
abbrev pub piled : {T : Type 0} → ℕ → List ℕ → List T → Piled T
piled start starts items = record { newest = reverse (drop start items); below = lists_of starts (take start items) }

-- The places fall to 0, where the oldest list begins.
unfoldable pub Falls : ℕ → List ℕ → Type 0
Falls start [] = start ≡ 0
Falls start (next ∷ starts) = (next ≤ start) × Falls next starts
