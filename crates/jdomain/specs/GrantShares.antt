-- A policy's grants with their code and permissions made once, so that each source takes its own from them; and the lists of sources,
-- where those that take of the same grants have one.
use Rattle.std.specs.Prelude.{◌≡◌, ℕ, ◌<◌, ◌≤◌, Bool, List, [], filter, flat_map, length, map, slice_get, unwrap_or, Option, Some, if◌then◌else◌}
use Rattle.std.specs.Ordering.{nat_cmp}
use Rattle.std.specs.Cmp.Lexicographic.{slice_cmp}
use Rattle.std.specs.BTreeMap as tree
use Rattle.std.specs.BTreeMap.{BTreeMap}
use Rattle.std.specs.Global.{Vec}
use Rattle.url.specs.Parts.{Parts}
use Rattle.jperm.specs.declared.permission.Permission.{Permission}
use Rattle.jpolicy.specs.declared.grant.Grant.{Grant}
use Rattle.jdomain.specs.declared.share.Share.{Share}
use Rattle.jdomain.specs.Domains.{permissions_of}
use Rattle.jdomain.specs.CodeSources.{code_of, is_in}

-- a grant's code and its permissions
abbrev pub share_of : List ℕ → Grant → Share
share_of directory grant = record { code = code_of grant; permissions = permissions_of directory grant }

-- the permissions of all shares whose code is that of a source, in order
unfoldable pub taken : List Share → Parts → List Permission
taken shares source = flat_map (λ share. share.permissions) (filter (λ share. is_in share.code source) shares)

-- ---- lists that several sources have

-- which shares a source takes of, in order: 1 where it does
abbrev pub mark : Bool → ℕ
mark takes = if takes then 1 else 0

abbrev pub marks : List Share → Parts → List ℕ
marks shares source = map (λ share. mark (is_in share.code source)) shares

-- the list of a number
abbrev pub list_at : List (List Permission) → ℕ → List Permission
list_at lists k = unwrap_or (slice_get lists k) []

-- the number that a table has at marks
abbrev pub number_at : BTreeMap (Vec ℕ) ℕ → List ℕ → Option ℕ
number_at known key = tree.get_by (λ k. slice_cmp nat_cmp key k.items) known

-- A number is that of a source's list.
abbrev pub IsList : List Share → List (List Permission) → Parts → ℕ → Type 0
IsList shares lists source k = (k < length lists) × (list_at lists k ≡ taken shares source)

-- Each number that a table has at a source's marks is that of its list.
abbrev pub Knows : List Share → List (List Permission) → BTreeMap (Vec ℕ) ℕ → Type 0
Knows shares lists known = (source : Parts) (k : ℕ) → number_at known (marks shares source) ≡ Some k → IsList shares lists source k

-- There are as many lists or more, and the old ones are the same.
abbrev pub Keeps : List (List Permission) → List (List Permission) → Type 0
Keeps old new = (length old ≤ length new) × ((k : ℕ) → k < length old → list_at new k ≡ list_at old k)
