-- What fields hold, where their types are known by number.
use Rattle.std.specs.Prelude.{Option, Some, None}
use Rattle.jtypes.specs.declared.vtype.VType.{VType}
use Rattle.jtypes.specs.declared.vtype.VType.TheVariants as types

-- a type, if there is one
abbrev pub or_top : Option VType → VType
or_top None = types.Top
or_top (Some t) = t
