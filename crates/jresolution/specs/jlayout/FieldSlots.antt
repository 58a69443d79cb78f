-- Where the fields of one class stand, by where its first static and its first field of objects stand.
use Rattle.std.specs.Prelude.{◌≡◌, ℕ, ◌+◌, List, length, take, option_map, slice_get, if◌then◌else◌}
use Rattle.std.specs.List.{filter}
use Rattle.jclass.specs.declared.class.MemberInfo.{MemberInfo}
use Rattle.jresolution.specs.declared.jlayout.slots.Next.{Next}
use Rattle.jresolution.specs.jlayout.FieldLayout.{is_instance, is_static}

-- where a field stands, if it is the next
abbrev pub place_by : Next → MemberInfo → ℕ
place_by next m = if is_static m then next.statics else next.instance

-- where the next fields stand behind these
abbrev pub behind : Next → List MemberInfo → Next
behind first ms = record { statics = first.statics + length (filter is_static ms); instance = first.instance + length (filter is_instance ms) }

-- of each field where it stands
abbrev pub AreSlots : Next → List MemberInfo → List ℕ → Type 0
AreSlots first fields slots = (j : ℕ) → slice_get slots j ≡ option_map (place_by (behind first (take j fields))) (slice_get fields j)
