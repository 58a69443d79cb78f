-- Numbers by which most permissions are told apart, and under which of them those stand that can cover one.
use Rattle.std.specs.Prelude.{ℕ, ◌+◌, ◌*◌, ◌%◌, ◌^◌, List, [], ◌∷◌, fold, nat_eq, if◌then◌else◌}
use Rattle.std.specs.Str.{byte}
use Rattle.jperm.specs.declared.permission.Permission.{Permission}
use Rattle.jperm.specs.declared.permission.Permission.TheVariants.{All, Basic, Property, File, Unresolved}
use Rattle.jperm.specs.declared.permission.BasicClass.{BasicClass}
use Rattle.jperm.specs.declared.permission.BasicClass.TheVariants.{Runtime, Security}
use Rattle.jperm.specs.NameCoverage.{is_wildcard, but_last}

-- ---- the key of an entry

-- the key of a text with one more unit
unfoldable pub stepped : ℕ → ℕ → ℕ
stepped key unit = (key * 1099511628211 % 2 ^ 64 + unit) % 2 ^ 64

-- the key of a text, on from that of its kind
abbrev pub text_key : ℕ → List ℕ → ℕ
text_key kind text = fold stepped kind text

-- a wildcard is found by what stands before its `*`
abbrev pub named_key : ℕ → List ℕ → ℕ
named_key kind name = if is_wildcard name then text_key kind (but_last name) else text_key kind name

-- the key of the empty name of a class
abbrev pub class_kind : BasicClass → ℕ
class_kind Runtime = 1
class_kind Security = 2

abbrev pub key_of : Permission → ℕ
key_of All = 0
key_of (Basic class name) = named_key (class_kind class) name
key_of (Property name actions) = named_key 3 name
key_of (File path name actions) = 4
key_of (Unresolved class) = 5

-- ---- where entries are looked for

-- the unit that parts the names in a name
abbrev pub dot : ℕ
dot = byte "."

-- the keys of a name's beginnings that end in a dot, and of the name, on from that of what stands before it
unfoldable pub keys_from : ℕ → List ℕ → List ℕ
keys_from key [] = key ∷ []
keys_from key (u ∷ us) = if nat_eq u dot then stepped key u ∷ keys_from (stepped key u) us else keys_from (stepped key u) us

-- the keys of all names that can cover a name
abbrev pub named_keys : ℕ → List ℕ → List ℕ
named_keys kind name = kind ∷ keys_from kind name

-- the keys of the permissions of its own kind that can cover an asked one
abbrev pub kind_keys : Permission → List ℕ
kind_keys (Basic class name) = named_keys (class_kind class) name
kind_keys (Property name actions) = named_keys 3 name
kind_keys (File path name actions) = 4 ∷ []
kind_keys _ = []

-- the keys of all permissions that can cover an asked one
abbrev pub keys_of : Permission → List ℕ
keys_of asked = 0 ∷ kind_keys asked
