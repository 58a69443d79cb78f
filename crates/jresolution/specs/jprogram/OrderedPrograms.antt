-- Programs whose classes stand in order.
use Rattle.std.specs.Prelude.{◌≡◌, ℕ, false, List, length, None}
use Rattle.jresolution.specs.jprogram.ProgramClasses.{Program, known, reaches}
use Rattle.jresolution.specs.jprogram.NameChecks.{naming_fault}
use Rattle.jresolution.specs.jprogram.SuperChecks.{supers_fault}

-- no class stands above itself
abbrev pub IsStraight : Program → Type 0
IsStraight p = (c : List ℕ) → reaches p (length (known p)) c c ≡ false

-- no name stands twice or is the library's, and what classes extend and list is there, may stand there, and makes no circle
pub record StandsInOrder (p : Program) : Type 0 where
  pub named : naming_fault p ≡ None
  pub extended : supers_fault p ≡ None
