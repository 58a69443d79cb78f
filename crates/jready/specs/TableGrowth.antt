-- Tables only grow, so that a number stands for one thing for ever.
use Rattle.std.specs.Prelude.{ℕ, ◌+◌, ◌≤◌, List, length, take, drop}
use Rattle.jresolution.specs.juses.PoolTables.{Grows}
use Rattle.jready.specs.declared.tables.Tables.{Tables}

pub record Grown (t u : Tables) : Type 0 where
  pub longs : Grows t.longs u.longs
  pub targets : Grows t.targets u.targets
  pub keys : Grows t.keys u.keys
  pub arrays : Grows t.arrays u.arrays

-- so many items from a number on
abbrev pub part : {A : Type 0} → List A → ℕ → ℕ → List A
part items first count = take count (drop first items)

-- They are there.
abbrev pub AreThere : {A : Type 0} → List A → ℕ → ℕ → Type 0
AreThere items first count = first + count ≤ length items
