-- Limits with new ones added, by their numbers.
use Rattle.std.specs.Prelude.{◌≡◌, List, Some, slice_get}
use Rattle.jperm.specs.declared.permission.Permission.{Permission}
use Rattle.jctx.specs.PrivilegeLimits.{add_limits}
use Rattle.jinterned.specs.declared.making.Extended.{Extended}
use Rattle.jinterned.specs.LimitSets.{limits_at}

-- One number is that of the limits of the other with new ones added.
abbrev pub AreExtended : List (List Permission) → List Permission → Extended → Type 0
AreExtended sets new k = slice_get sets k.to ≡ Some (add_limits (limits_at sets k.from) new)
