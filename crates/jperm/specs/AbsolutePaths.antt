-- Absolute paths.
use Rattle.std.specs.Prelude.{ℕ, Bool, List, nat_eq, codes}
use Rattle.std.specs.List.{starts_with}

-- whether a path begins at the root
abbrev pub is_absolute : List ℕ → Bool
is_absolute path = starts_with nat_eq path (codes "/")
