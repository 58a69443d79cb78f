-- The chains in which the entries of a list stand, each by its key, and what is found along them on an asked permission.
use Rattle.std.specs.Prelude.{◌≡◌, ℕ, zero, suc, ◌<◌, ◌%◌, ◌==◌, Bool, true, false, ◌&&◌, ◌||◌, List, [], ◌∷◌, length, slice_get, fold, bit_or, Option, Some, None, nat_eq, if◌then◌else◌}
use Rattle.std.specs.List.{list_any}
use Rattle.jperm.specs.declared.chains.Chains.{Chains}
use Rattle.jperm.specs.declared.permission.Permission.{Permission}
use Rattle.jperm.specs.declared.permission.Permission.TheVariants.{Property, File}
use Rattle.jperm.specs.Actions.{has_all}
use Rattle.jperm.specs.PermissionKeys.{dot, key_of}
use Rattle.jperm.specs.Permissions.{gives, implies, stands_alone}

-- ---- chains

-- what a link leads to, if there is one
abbrev pub held : Option (Option ℕ) → Option ℕ
held None = None
held (Some place) = place

abbrev pub linked : List (Option ℕ) → ℕ → Option ℕ
linked links k = held (slice_get links k)

-- the slot of a key among so many
abbrev pub slot : ℕ → ℕ → ℕ
slot count key = key % count

-- the newest entry whose key has the slot of a key
abbrev pub newest : List (Option ℕ) → ℕ → Option ℕ
newest heads key = linked heads (slot (length heads) key)

-- the places that links lead to one after the other, at most so many
unfoldable pub chain : List (Option ℕ) → ℕ → Option ℕ → List ℕ
chain older zero at = []
chain older (suc n) None = []
chain older (suc n) (Some place) = place ∷ chain older n (linked older place)

-- the places in the chain of a key
abbrev pub places : List (Option ℕ) → List (Option ℕ) → ℕ → List ℕ
places heads older key = chain older (length older) (newest heads key)

abbrev pub has_place : List ℕ → ℕ → Bool
has_place ps p = list_any (λ q. q == p) ps

-- Each entry of a list stands in the chain of its key.
abbrev pub AllStand : List Permission → List (Option ℕ) → List (Option ℕ) → Type 0
AllStand list heads older = (p : ℕ) (m : Permission) → slice_get list p ≡ Some m → has_place (places heads older (key_of m)) p ≡ true

abbrev pub AreChains : List Permission → Chains → Type 0
AreChains list chains = (0 < length chains.heads) × AllStand list chains.heads chains.older

-- ---- what is found along them

-- one more entry: whether one that has no actions implies what is asked for, and the actions that are given on it
abbrev pub noted : Permission → Bool × ℕ → Permission → Bool × ℕ
noted asked found member = (found.0 || (stands_alone member && implies member asked), bit_or found.1 (gives member asked))

abbrev pub noted_if : Permission → Bool × ℕ → Option Permission → Bool × ℕ
noted_if asked found None = found
noted_if asked found (Some member) = noted asked found member

-- the entry of a list at a place, if there is one
abbrev pub noted_at : Permission → List Permission → Bool × ℕ → ℕ → Bool × ℕ
noted_at asked list found place = noted_if asked found (slice_get list place)

-- all in the chain of a key
abbrev pub looked : List Permission → Chains → Permission → Bool × ℕ → ℕ → Bool × ℕ
looked list chains asked found key = fold (noted_at asked list) found (places chains.heads chains.older key)

-- those in the chain of a key that a dot ends
abbrev pub looked_behind : List Permission → Chains → Permission → Bool × ℕ → ℕ → ℕ → Bool × ℕ
looked_behind list chains asked found key unit = if nat_eq unit dot then looked list chains asked found key else found

-- whether actions are all that are asked for
abbrev pub enough : ℕ → Permission → Bool
enough actions (Property wanted all) = has_all actions all
enough actions (File wanted name all) = has_all actions all
enough actions _ = false

-- whether what was found covers what is asked for
abbrev pub suffices : Bool × ℕ → Permission → Bool
suffices found asked = found.0 || enough found.1 asked
