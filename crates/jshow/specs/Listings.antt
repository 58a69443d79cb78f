-- The lines of the verb `policy`: for each code source its number and URL, and then a line for each of its permissions.
use Rattle.std.specs.Prelude.{ℕ, ◌+◌, List, [], ◌∷◌, ◌++◌, codes, decimal}
use Rattle.std.specs.List.{flat_map}
use Rattle.url.specs.Parts.{Parts, serialize}
use Rattle.jperm.specs.declared.permission.Permission.{Permission}
use Rattle.jperm.specs.declared.permission.Permission.TheVariants.{Unresolved}
use Rattle.jperm.specs.PermissionTexts.{text_of}
use Rattle.jshow.specs.Refusals.{text_line}

-- what a permission's line begins with
unfoldable pub permission_word : Permission → List ℕ
permission_word = elim [ Unresolved class ↦ codes "unresolved " | _ ↦ codes "permission " ]

-- what its line tells: the class that makes no permission, or the permission
unfoldable pub permission_units : Permission → List ℕ
permission_units = elim [ Unresolved class ↦ class | permission ↦ text_of permission ]

abbrev pub permission_line : Permission → List ℕ
permission_line permission = text_line (permission_word permission) (permission_units permission)

abbrev pub permission_lines : List Permission → List ℕ
permission_lines permissions = flat_map permission_line permissions

-- the line of a domain
abbrev pub domain_line : ℕ → Parts → List ℕ
domain_line d source = codes "domain " ++ (decimal d ++ (codes " " ++ (serialize source ++ codes "\n")))

-- all lines of a domain
abbrev pub domain_lines : ℕ → Parts → List Permission → List ℕ
domain_lines d source permissions = domain_line d source ++ permission_lines permissions

-- all lines of these domains, the first of which has the number `d`
unfoldable pub listing : ℕ → List Parts → List (List Permission) → List ℕ
listing d (source ∷ sources) (permissions ∷ lists) = domain_lines d source permissions ++ listing (d + 1) sources lists
listing d _ _ = []
