-- The item at a place of a list and another behind it.
use Rattle.std.proofs.Common.{◌≡◌, ℕ, zero, suc, ◌-◌, ◌<◌, ◌≤◌, List, [], ◌∷◌, ◌++◌, length, refl, ap, ◌∙◌, arith, slice_get}

pub get_in_front : {A : Type 0} (a b : List A) (j : ℕ) → j < length a → slice_get (a ++ b) j ≡ slice_get a j
get_in_front [] b j h = absurd (omega arith)
get_in_front (x ∷ a) b zero h = refl
get_in_front (x ∷ a) b (suc j) h = get_in_front a b j (omega arith)

at_front : (j : ℕ) → j ≡ j - 0
at_front j = omega arith

one_on : (j n : ℕ) → j - n ≡ suc j - suc n
one_on j n = omega arith

pub get_behind : {A : Type 0} (a b : List A) (j : ℕ) → length a ≤ j → slice_get (a ++ b) j ≡ slice_get b (j - length a)
get_behind [] b j h = ap (slice_get b) (at_front j)
get_behind (x ∷ a) b zero h = absurd (omega arith)
get_behind (x ∷ a) b (suc j) h = get_behind a b j (omega arith) ∙ ap (slice_get b) (one_on j (length a))
