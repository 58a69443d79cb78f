-- The laws of lists one on the other.
use Rattle.std.specs.Prelude.{◌≡◌, ℕ, ◌-◌, ◌<◌, List, length, Some, slice_get, slice_set}
use Rattle.std.proofs.Common.{◌≢◌}
use Rattle.jstacks.specs.ListStacks.{Piled, closed, from_oldest, on_top, with_newest}

-- An item that was put in another's place is read there,
abbrev pub ReadsTheWrite : Type 0 → Type 0
ReadsTheWrite T = (p : Piled T) (i : ℕ) (x : T) → i < length p.newest → slice_get (with_newest (slice_set p.newest i x) p).newest i ≡ Some x

-- and no other item changes.
abbrev pub LeavesOthers : Type 0 → Type 0
LeavesOthers T = (p : Piled T) (i j : ℕ) (x : T) → j ≢ i → slice_get (with_newest (slice_set p.newest i x) p).newest j ≡ slice_get p.newest j

-- An item has a place counted from the newest and one counted from the oldest.
abbrev pub CountsBothWays : Type 0 → Type 0
CountsBothWays T = (p : Piled T) (i : ℕ) → i < length p.newest → slice_get (from_oldest p) i ≡ slice_get p.newest (length p.newest - 1 - i)

-- What is opened and closed again, whatever was done in between to the newest list, is as before.
abbrev pub ClosesTheOpened : Type 0 → Type 0
ClosesTheOpened T = (p : Piled T) (first last : List T) → closed (with_newest last (on_top first p)) ≡ p
