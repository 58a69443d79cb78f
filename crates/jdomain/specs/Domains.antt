-- What a policy grants to the code of each source, and which permissions a domain has (policy file documentation, "Policy File Syntax").
use Rattle.std.specs.Prelude.{ℕ, Bool, false, List, Option, Some, None, unwrap_or, option_map, filter, flat_map, map, slice_get, if◌then◌else◌}
use Rattle.std.specs.Result.{result_unwrap_or}
use Rattle.url.specs.Parts.{Parts}
use Rattle.jperm.specs.declared.making.PermClass.{PermClass}
use Rattle.jperm.specs.declared.permission.Permission.{Permission}
use Rattle.jperm.specs.declared.permission.Permission.TheVariants.{Unresolved}
use Rattle.jperm.specs.PermissionConstructors.{made}
use Rattle.jperm.specs.Permissions.{covers}
use Rattle.jperm.specs.PermissionTexts.{class_named}
use Rattle.jpolicy.specs.declared.grant.Grant.{Grant}
use Rattle.jpolicy.specs.declared.grant.GrantEntry.{GrantEntry}
use Rattle.jdomain.specs.CodeSources.{matches}

-- ---- the permission of an entry

-- the permission that a class makes of an entry in a directory, where there is a class
abbrev pub made_by : List ℕ → Option PermClass → GrantEntry → Permission
made_by directory None entry = Unresolved entry.class
made_by directory (Some class) entry = result_unwrap_or (made class entry.name entry.actions directory) (Unresolved entry.class)

-- the permission of an entry; it is unresolved where the entry asks for a signer, its class is unknown, or its name or actions make none
unfoldable pub permission_of : List ℕ → GrantEntry → Permission
permission_of directory entry = if entry.signed then Unresolved entry.class else made_by directory (class_named entry.class) entry

-- ---- what is granted

-- the permissions of a grant's entries, in order
abbrev pub permissions_of : List ℕ → Grant → List Permission
permissions_of directory grant = map (permission_of directory) grant.entries

-- the permissions of all grants that are for the code of a source, in the order of the policy
unfoldable pub granted : List ℕ → List Grant → Parts → List Permission
granted directory policy source = flat_map (permissions_of directory) (filter (λ grant. matches grant source) policy)

-- ---- what a domain has

-- whether a domain has a permission: the list of that number covers it; a number without a list has none
abbrev pub has : List (List Permission) → ℕ → Permission → Bool
has lists domain asked = unwrap_or (option_map (λ list. covers list asked) (slice_get lists domain)) false
