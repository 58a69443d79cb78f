-- The first test that fails.
use Rattle.std.specs.Prelude.{ℕ, ◌+◌, Bool, List, [], ◌∷◌, Option, Some, None, if◌then◌else◌}

-- a fault where the test holds
abbrev pub fault_if : {F : Type 0} → Bool → F → Option F
fault_if test fault = if test then Some fault else None

-- the first fault, else the second
abbrev pub or_else : {F : Type 0} → Option F → Option F → Option F
or_else x later = elim x [ Some fault ↦ Some fault | None ↦ later ]

-- the first fault among the items, each given with its place; `i` is the place of the first item
unfoldable pub first_along : {A F : Type 0} → (ℕ → A → Option F) → ℕ → List A → Option F
first_along test i [] = None
first_along test i (x ∷ xs) = or_else (test i x) (first_along test (i + 1) xs)

-- the first fault among the items, where places don't count
unfoldable pub first_some : {A F : Type 0} → (A → Option F) → List A → Option F
first_some test [] = None
first_some test (x ∷ xs) = or_else (test x) (first_some test xs)
