-- The newest items of a stack, and what comes in their place.
use Rattle.std.specs.Prelude.{ℕ, List, [], ◌∷◌, Option, Some, None, if◌then◌else◌}
use Rattle.jvalues.specs.declared.jops.value.Value.{Value}
use Rattle.jvalues.specs.jops.Shuffles.{Item, Move, One, Two, is_long, moves}
use Rattle.jrows.specs.declared.jacts.moves.Top.{Top}
use Rattle.jrows.specs.declared.jacts.moves.Top.TheVariants as tops
use Rattle.jrows.specs.declared.jacts.moves.Laid.{Laid}
use Rattle.jrows.specs.declared.jacts.moves.Laid.TheVariants as lays

-- an item, where it is there
abbrev pub top_seen : Option (Value ℕ) → Top
top_seen None = tops.None
top_seen (Some v) = if is_long v then tops.Two v else tops.One v

-- a stack with an item on those below it; where it isn't there, there are none below it
abbrev pub on : Top → List (Item (Value ℕ)) → List (Item (Value ℕ))
on tops.None below = []
on (tops.One v) below = One v ∷ below
on (tops.Two v) below = Two v ∷ below

abbrev pub four : Top → Top → Top → Top → List (Item (Value ℕ))
four a b c d = on a (on b (on c (on d [])))

-- what goes and comes
abbrev pub laid : Laid → Move (Value ℕ)
laid (lays.Gone n) = moves n []
laid (lays.Two n a b) = moves n (a ∷ b ∷ [])
laid (lays.Three n a b c) = moves n (a ∷ b ∷ c ∷ [])
laid (lays.Four n a b c d) = moves n (a ∷ b ∷ c ∷ d ∷ [])
laid (lays.Five n a b c d e) = moves n (a ∷ b ∷ c ∷ d ∷ e ∷ [])
laid (lays.Six n a b c d e f) = moves n (a ∷ b ∷ c ∷ d ∷ e ∷ f ∷ [])
