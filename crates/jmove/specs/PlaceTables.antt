-- A table of new places by old ones, which the code looks up in place of labels.
use Rattle.std.specs.Prelude.{ℕ, ℤ, List, slice_index_or}
use Rattle.jmove.specs.ProofNames.{distance}

-- new places by old ones, and the place of all others
pub record Table : Type 0 where
  pub places : List ℕ
  pub past : ℕ

abbrev pub in_table : Table → ℕ → ℕ
in_table t old = slice_index_or t.places old t.past

-- an instruction that stood at an old place, and stands at a new one
pub record Moving : Type 0 where
  pub table : Table
  pub from : ℕ
  pub at : ℕ

-- how far its branches lead
abbrev pub distances : Moving → ℤ → ℤ
distances m = distance (in_table m.table) m.from m.at
