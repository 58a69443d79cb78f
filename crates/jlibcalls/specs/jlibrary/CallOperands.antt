-- The values that a call of the library takes, the newest first.
use Rattle.std.specs.Prelude.{ℕ, List, [], ◌∷◌, Option, Some, None}
use Rattle.jvalues.specs.declared.jops.value.Value.{Value}

-- the only one
abbrev pub one_in : List (Value ℕ) → Option (Value ℕ)
one_in (v ∷ []) = Some v
one_in values = None

-- both, where there are two
abbrev pub two_in : List (Value ℕ) → Option (Value ℕ × Value ℕ)
two_in (w ∷ v ∷ []) = Some (w, v)
two_in values = None

-- all three
abbrev pub three_in : List (Value ℕ) → Option (Value ℕ × Value ℕ × Value ℕ)
three_in (x ∷ w ∷ v ∷ []) = Some (x, w, v)
three_in values = None
