-- Going along a list, some items at a time, from one state to the next.
use Rattle.std.specs.Prelude.{◌≡◌, ℕ, zero, suc, ◌==◌, Bool, true, ◌⊎◌, List, [], length, Result, Ok, Err, if◌then◌else◌}
use Rattle.jground.specs.jbase.MemoryFailures.{◌>>=◌}

-- nothing is left
abbrev pub none_left : {A : Type 0} → List A → Bool
none_left xs = length xs == 0

-- at most so many steps from a state, until the walk ends; the state there and the items that are left
unfoldable pub walk : {S A F : Type 0} → (List A → Bool) → (S → List A → Result (S × List A) F) → ℕ → S → List A → Result (S × List A) F
walk ends goes zero s xs = Ok (s, xs)
walk ends goes (suc n) s xs = if ends xs then Ok (s, xs) else (goes s xs >>= λ x. walk ends goes n x.0 x.1)

-- The walk ended at its test, at a fault, or with nothing left, and not for want of steps.
abbrev pub Ends : {S A F : Type 0} → (List A → Bool) → Result (S × List A) F → Type 0
Ends ends (Ok (s, xs)) = (ends xs ≡ true) ⊎ (xs ≡ [])
Ends ends (Err fault) = Unit {0}
