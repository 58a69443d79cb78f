-- When a fault may be told, and what a failing call may have written.
use Rattle.std.specs.Prelude.{◌≡◌, ℕ, ◌+◌, ◌-◌, ◌^◌, ◌≤◌, min, OnErr, Result, Option, List, ◌++◌}
use Rattle.std.specs.Option.{option_map}

-- A count of faults has risen, or stands at the last number of a u64.
abbrev pub Rose : ℕ → ℕ → Type 0
Rose before now = min (before + 1) (2 ^ 64 - 1) ≤ now

-- A call's count of faults doesn't fall, and has risen where the call failed.
pub record HasCause {T E : Type 0} (before now : ℕ) (result : Result T E) : Type 0 where
  pub later : before ≤ now
  pub failed : OnErr result (Rose before now)

-- Bytes that are told, and these behind them.
abbrev pub appended : Option (List ℕ) → List ℕ → Option (List ℕ)
appended known bytes = option_map (λ told. told ++ bytes) known

-- The bytes grew by a front of the text.
abbrev pub IsCut : Option (List ℕ) → Option (List ℕ) → List ℕ → Type 0
IsCut old new text = (front : List ℕ) × (rest : List ℕ) × (text ≡ front ++ rest) × (new ≡ appended old front)
