-- What the instructions that move the newest items of the stack do (JVMS 6.5). Stacks stand newest first here.
use Rattle.std.specs.Prelude.{◌≡◌, ℕ, ◌≤◌, ◌++◌, Bool, true, false, if◌then◌else◌, List, [], ◌∷◌, length, map, take, reverse, Option, Some, None}
use Rattle.jvalues.specs.declared.jops.value.Value.{Value}
use Rattle.jvalues.specs.declared.jops.value.Value.TheVariants.{Long}
use Rattle.jvalues.specs.declared.jnames.names.Shuffle.{Shuffle}
use Rattle.jvalues.specs.declared.jnames.names.Shuffle.TheVariants.{Pop, Pop2, Dup, DupX1, DupX2, Dup2, Dup2X1, Dup2X2, Swap}
use Rattle.jvalues.specs.declared.jops.shuffling.Shuffled.{Shuffled}

-- an item of the stack by its category (JVMS 2.11.1): one slot, or two slots as a long fills
pub data Item (V : Type 0) : Type 0 where
  One Two : V → Item V

-- how many of the newest items go, and what comes in their place, newest first
pub record Move (V : Type 0) : Type 0 where
  pub taken : ℕ
  pub put : List V

abbrev pub moves : {V : Type 0} → ℕ → List V → Move V
moves n comes = record { taken = n; put = comes }

-- The forms of each instruction; None where no form fits the newest items.
unfoldable pub shuffle : {V : Type 0} → Shuffle → List (Item V) → Option (Move V)
shuffle Pop (One a ∷ _) = Some (moves 1 [])
shuffle Pop2 (One a ∷ One b ∷ _) = Some (moves 2 [])
shuffle Pop2 (Two a ∷ _) = Some (moves 1 [])
shuffle Dup (One a ∷ _) = Some (moves 1 (a ∷ a ∷ []))
shuffle DupX1 (One a ∷ One b ∷ _) = Some (moves 2 (a ∷ b ∷ a ∷ []))
shuffle DupX2 (One a ∷ One b ∷ One c ∷ _) = Some (moves 3 (a ∷ b ∷ c ∷ a ∷ []))
shuffle DupX2 (One a ∷ Two b ∷ _) = Some (moves 2 (a ∷ b ∷ a ∷ []))
shuffle Dup2 (One a ∷ One b ∷ _) = Some (moves 2 (a ∷ b ∷ a ∷ b ∷ []))
shuffle Dup2 (Two a ∷ _) = Some (moves 1 (a ∷ a ∷ []))
shuffle Dup2X1 (One a ∷ One b ∷ One c ∷ _) = Some (moves 3 (a ∷ b ∷ c ∷ a ∷ b ∷ []))
shuffle Dup2X1 (Two a ∷ One b ∷ _) = Some (moves 2 (a ∷ b ∷ a ∷ []))
shuffle Dup2X2 (One a ∷ One b ∷ One c ∷ One d ∷ _) = Some (moves 4 (a ∷ b ∷ c ∷ d ∷ a ∷ b ∷ []))
shuffle Dup2X2 (Two a ∷ One b ∷ One c ∷ _) = Some (moves 3 (a ∷ b ∷ c ∷ a ∷ []))
shuffle Dup2X2 (One a ∷ One b ∷ Two c ∷ _) = Some (moves 3 (a ∷ b ∷ c ∷ a ∷ b ∷ []))
shuffle Dup2X2 (Two a ∷ Two b ∷ _) = Some (moves 2 (a ∷ b ∷ a ∷ []))
shuffle Swap (One a ∷ One b ∷ _) = Some (moves 2 (b ∷ a ∷ []))
shuffle _ _ = None

-- ---- values as items

abbrev pub is_long : {K : Type 0} → Value K → Bool
is_long y = elim y [ Long x ↦ true | _ ↦ false ]

abbrev pub item : {K : Type 0} → Value K → Item (Value K)
item v = if is_long v then Two v else One v

-- the items of values that stand newest last
abbrev pub items : {K : Type 0} → List (Value K) → List (Item (Value K))
items top = map item (reverse top)

-- what an answer says; its values stand newest last
abbrev pub moved : Shuffled → Move (Value ℕ)
moved s = moves s.taken (reverse (take s.put s.values))

-- What goes and comes depends on the items that go alone: where a form fits a stack, the same goes and comes with any others
-- below, and no more go than are there.
abbrev pub LooksNoDeeper : Type 0 → Type 0
LooksNoDeeper V = (s : Shuffle) (stack below : List (Item V)) (m : Move V) → shuffle s stack ≡ Some m
    → (shuffle s (stack ++ below) ≡ Some m) × (m.taken ≤ length stack)

-- no form looks at more than the newest four items
abbrev pub LooksAtFour : Type 0 → Type 0
LooksAtFour V = (s : Shuffle) (stack : List (Item V)) → shuffle s (take 4 stack) ≡ shuffle s stack
