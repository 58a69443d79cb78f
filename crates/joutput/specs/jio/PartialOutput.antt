-- What went out before a fault.
use Rattle.std.specs.Prelude.{◌≡◌, ℕ, ◌<◌, List, length, take, Option}
use Rattle.jground.specs.jbase.FaultCauses.{appended}

-- Of these bytes exactly the first `written` went out behind `start`, and not all.
pub record IsCutAt (start now : Option (List ℕ)) (bytes : List ℕ) (written : ℕ) : Type 0 where
  pub within : written < length bytes
  pub out : now ≡ appended start (take written bytes)
