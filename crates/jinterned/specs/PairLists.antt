-- Lists of pairs by number, one behind the other.
use Rattle.std.specs.Prelude.{◌≡◌, ℕ, ◌+◌, ◌<◌, ◌≤◌, length, List, ◌++◌, Some, drop, map, slice_get, take}
use Rattle.jinterned.specs.declared.lists.Entry.{Entry}
use Rattle.jinterned.specs.declared.pairs.Pair.{Pair}

-- the pairs of an entry
abbrev pub list_of : List Pair → Entry → List Pair
list_of pairs e = take e.count (drop e.first pairs)

abbrev pub lists_of : List Pair → List Entry → List (List Pair)
lists_of pairs entries = map (list_of pairs) entries

-- Each entry's pairs are there.
abbrev pub AreWithin : ℕ → List Entry → Type 0
AreWithin count entries = (i : ℕ) (e : Entry) → slice_get entries i ≡ Some e → e.first + e.count ≤ count

-- A pair is the one at a place of a list, where that has so many.
abbrev pub IsAt : ℕ → List Pair → Pair → Type 0
IsAt i list pair = i < length list → Some pair ≡ slice_get list i

-- An entry keeps its list's first two pairs.
abbrev pub KeepsFront : List Pair → Entry → Type 0
KeepsFront list e = IsAt 0 list e.head × IsAt 1 list e.next

abbrev pub KeepFronts : List Pair → List Entry → Type 0
KeepFronts pairs entries = (i : ℕ) (e : Entry) → slice_get entries i ≡ Some e → KeepsFront (list_of pairs e) e

-- A list is another one with more behind.
pub record Extends {T : Type 0} (old new : List T) : Type 0 where
  pub more : List T
  pub is : new ≡ old ++ more

-- A list begins with another one, which isn't empty.
pub record BeginsWith {T : Type 0} (whole front : List T) : Type 0 where
  pub some : 0 < length front
  pub more : List T
  pub is : whole ≡ front ++ more
