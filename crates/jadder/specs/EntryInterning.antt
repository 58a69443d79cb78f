-- What adding an entry to a pool makes of it: an equal entry is found, or the entry is put behind the others.
use Rattle.std.specs.Prelude.{◌≡◌, ℕ, ◌+◌, ◌<◌, Bool, List, ◌++◌, length, Option, Some, None, slice_get, nat_le, if◌then◌else◌}
use Rattle.std.specs.Option.{option_map, option_or}
use Rattle.std.specs.List.{position}
use Rattle.std.specs.Str.{bytes_eq}
use Rattle.jparts.specs.declared.jpool.entry.Entry.{Entry}
use Rattle.jparts.specs.jpool.EntryLayouts.{laid}
use Rattle.jparts.specs.jpool.PoolEntries.{entry}

-- whether two entries are equal: whether they are spelled alike
abbrev pub same : Entry → Entry → Bool
same e x = bytes_eq (entry.spell e) (entry.spell x)

-- the entry behind the others, where their number stays one of 16 bits
abbrev pub put_behind : Entry → List Entry → Option (ℕ × List Entry)
put_behind e entries = if nat_le (length entries + length (laid e)) 0xffff then Some (length entries, entries ++ laid e) else None

-- The least index of an equal entry, and the entries as they are. Where none is equal: the first free index, and the
-- entries with this one behind; nothing where a pool has no room for it.
unfoldable pub added : Entry → List Entry → Option (ℕ × List Entry)
added e entries = option_or (option_map (λ i. (i, entries)) (position (same e) entries)) (put_behind e entries)

-- the first place at which the entry stands
pub record IsLeast (e : Entry) (entries : List Entry) (i : ℕ) : Type 0 where
  pub there : slice_get entries i ≡ Some e
  pub first : (k : ℕ) → k < i → slice_get entries k ≡ Some e → ⊥
