-- Names by which proofs and the contracts of inner functions call what the definitions say in place. What `javasec` and `dispatch` promise
-- reaches none of them.
use Rattle.std.specs.Prelude.{Option, List, ℕ, Result, Ok}
use Rattle.jground.specs.jbase.MemoryFailures.{◌>>=◌}
use Rattle.jperm.specs.declared.permission.BasicClass.{BasicClass}
use Rattle.jperm.specs.declared.permission.Permission.{Permission}
use Rattle.jperm.specs.declared.making.PermError.{PermError}
use Rattle.jperm.specs.PermissionConstructors.{filled}
use Rattle.jperm.specs.declared.permission.Permission.TheVariants.{Basic}

-- ---- of PermissionConstructors

-- a permission that has a name and no actions
abbrev pub made_basic : BasicClass → Option (List ℕ) → Result Permission PermError
made_basic class name = filled name >>= λ text. Ok (Basic class text)
