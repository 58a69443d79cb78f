-- The limits of a privilege, as a list of permissions in the order in which they came (class documentation of AccessController).
use Rattle.std.specs.Prelude.{Bool, List, [], ◌∷◌, ◌++◌, if◌then◌else◌}
use Rattle.std.specs.List.{list_all, list_any}
use Rattle.jperm.specs.declared.permission.Permission.{Permission}
use Rattle.jperm.specs.Permissions.{equal}

-- whether every member equals one of the others
abbrev pub is_within : List Permission → List Permission → Bool
is_within members others = list_all (λ m. list_any (equal m) others) members

-- the limits with the new ones behind, each left out that equals one already there
abbrev pub add_limits : List Permission → List Permission → List Permission
add_limits limits [] = limits
add_limits limits (l ∷ new) = if list_any (equal l) limits then add_limits limits new else add_limits (limits ++ l ∷ []) new
