-- Locals of which the first alone are kept: each behind them is Top.
use Rattle.std.specs.Prelude.{ℕ, ◌-◌, List, ◌++◌, length, replicate}
use Rattle.jresolution.specs.declared.juses.types.TypeRef.{TypeRef}
use Rattle.jresolution.specs.declared.juses.types.TypeRef.TheVariants as refs

-- as many types as are wanted
abbrev pub filled : List TypeRef → ℕ → List TypeRef
filled kept count = kept ++ replicate (count - length kept) refs.Top
