-- Contexts as lists of pairs, and limits by number: what they stand for.
use Rattle.std.specs.Prelude.{◌≡◌, ℕ, ◌<◌, ◌++◌, List, [], ◌∷◌, Some, get_or, map, slice_get}
use Rattle.std.proofs.Common.{◌⊎◌}
use Rattle.jperm.specs.declared.permission.Permission.{Permission}
use Rattle.jctx.specs.declared.item.Item.{Item}
use Rattle.jinterned.specs.declared.pairs.Pair.{Pair}
use Rattle.jinterned.specs.LimitSets.{limits_at}
use Rattle.jinterned.specs.InternedContexts.{IsNew}

-- limits by number, and lists of pairs by number
pub record Stored : Type 0 where
  pub sets : List (List Permission)
  pub lists : List (List Pair)

-- the item of a pair
abbrev pub item_of : List (List Permission) → Pair → Item
item_of sets p = record { limits = limits_at sets p.limits; domain = p.domain }

abbrev pub items_of : List (List Permission) → List Pair → List Item
items_of sets pairs = map (item_of sets) pairs

-- the contexts of the lists
abbrev pub contexts_of : Stored → List (List Item)
contexts_of s = map (items_of s.sets) s.lists

-- the context of a number
abbrev pub context_in : Stored → ℕ → List Item
context_in s n = items_of s.sets (get_or s.lists n [])

-- Each pair's limits have a number below a count.
abbrev pub AreNamed : ℕ → List Pair → Type 0
AreNamed count pairs = (i : ℕ) (p : Pair) → slice_get pairs i ≡ Some p → p.limits < count

abbrev pub AllNamed : ℕ → List (List Pair) → Type 0
AllNamed count lists = (n : ℕ) (pairs : List Pair) → slice_get lists n ≡ Some pairs → AreNamed count pairs

-- Behind a call the lists hold one at a number; they are as they were before, or it is new and stands behind them.
abbrev pub HoldsList : List (List Pair) → List Pair → List (List Pair) → ℕ → Type 0
HoldsList old pairs new n = (slice_get new n ≡ Some pairs) × ((new ≡ old) ⊎ ((new ≡ old ++ pairs ∷ []) × IsNew old pairs))
