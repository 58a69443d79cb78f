-- Lists of limits by number, each once; number 0 is none.
use Rattle.std.specs.Prelude.{◌≡◌, ℕ, List, [], Some, get_or, slice_get}
use Rattle.jperm.specs.declared.permission.Permission.{Permission}
use Rattle.jinterned.specs.InternedContexts.{AreDistinct}

-- the limits of a number
abbrev pub limits_at : List (List Permission) → ℕ → List Permission
limits_at sets n = get_or sets n []

-- The first are none, and no two are equal.
abbrev pub AreSets : List (List Permission) → Type 0
AreSets sets = (slice_get sets 0 ≡ Some []) × AreDistinct sets
