-- The slots of a program's names: in each the first part whose class's name has that slot.
use Rattle.std.specs.Prelude.{◌≡◌, ℕ, ◌<◌, ◌%◌, ◌==◌, Bool, false, List, length, slice_get, Option, Some, None, if◌then◌else◌}
use Rattle.std.specs.List.{position}
use Rattle.std.specs.Option.{option_or}
use Rattle.std.specs.Str.{bytes_eq}
use Rattle.jresolution.specs.declared.jprogram.part.CodePart.{CodePart}
use Rattle.jresolution.specs.jprogram.MemberDigests.{digest_text}
use Rattle.jresolution.specs.jprogram.ClassFileParts.{this_name}

-- the slot of a name among so many
abbrev pub slot_of : ℕ → List ℕ → ℕ
slot_of count name = digest_text 0 name % count

abbrev pub has_slot : ℕ → ℕ → CodePart → Bool
has_slot count k part = slot_of count (this_name part.class) == k

-- what stands in a slot, if there is one
abbrev pub held : Option (Option ℕ) → Option ℕ
held None = None
held (Some place) = place

abbrev pub place_at : List (Option ℕ) → ℕ → Option ℕ
place_at slots k = held (slice_get slots k)

-- what stands in the slot of a name
abbrev pub place_in : List (Option ℕ) → List ℕ → Option ℕ
place_in slots name = place_at slots (slot_of (length slots) name)

-- so many slots have the first part each
abbrev pub AreFilled : ℕ → List CodePart → List (Option ℕ) → Type 0
AreFilled count parts slots = (name : List ℕ) → place_at slots (slot_of count name) ≡ position (has_slot count (slot_of count name)) parts

abbrev pub AreSlots : List CodePart → List (Option ℕ) → Type 0
AreSlots parts slots = (0 < length slots) × AreFilled (length slots) parts slots

-- a slot has the place that it had, or else the new one where it is this one
abbrev pub Fills : ℕ → ℕ → List (Option ℕ) → List (Option ℕ) → Type 0
Fills k i old new = (length new ≡ length old) × ((j : ℕ) → place_at new j ≡ option_or (place_at old j) (if k == j then Some i else None))

-- the class of a part, if there is one, has this name
abbrev pub is_named : List ℕ → Option CodePart → Bool
is_named name None = false
is_named name (Some part) = bytes_eq (this_name part.class) name
