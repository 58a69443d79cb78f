-- Names that cover others (class documentation of BasicPermission).
use Rattle.std.specs.Prelude.{ℕ, ◌-◌, Bool, ◌&&◌, ◌||◌, List, length, take, nat_eq, nat_lt, codes}
use Rattle.std.specs.List.{starts_with, ends_with}
use Rattle.std.specs.Str.{bytes_eq}

-- whether a name is `*` or ends in `.*`
abbrev pub is_wildcard : List ℕ → Bool
is_wildcard name = bytes_eq name (codes "*") || ends_with nat_eq name (codes ".*")

-- whether a text begins with the start and is longer
abbrev pub goes_on : List ℕ → List ℕ → Bool
goes_on start text = starts_with nat_eq text start && nat_lt (length start) (length text)

-- a text without its last unit
abbrev pub but_last : List ℕ → List ℕ
but_last text = take (length text - 1) text

-- whether a name covers an asked one: they are equal, or the name is a wildcard and the asked one goes on where its `*` stands
abbrev pub name_covers : List ℕ → List ℕ → Bool
name_covers name asked = bytes_eq name asked || (is_wildcard name && goes_on (but_last name) asked)
