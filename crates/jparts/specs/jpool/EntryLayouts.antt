-- Adding an entry to a pool: which may be added, and how they stand in it.
use Rattle.std.specs.Prelude.{Bool, true, false, List, [], ◌∷◌, length, nat_le, if◌then◌else◌}
use Rattle.jparts.specs.declared.jpool.entry.Entry.{Entry}
use Rattle.jparts.specs.declared.jpool.entry.Entry.TheVariants.{Unused, Utf8, Class}
use Rattle.jparts.specs.jpool.PoolEntries.{is_wide}
use Rattle.jparts.specs.jpool.ConstantPools.{is_utf8}

-- an entry that has a spelling of its own
abbrev pub has_spelling : Entry → Bool
has_spelling Unused = false
has_spelling (Utf8 text) = nat_le (length text) 0xffff
has_spelling _ = true

-- a class names a text among the entries
abbrev pub names_text : List Entry → Entry → Bool
names_text entries (Class name) = is_utf8 entries name
names_text entries _ = true

-- an entry as it stands in a pool: one of two indices has nothing at the second
abbrev pub laid : Entry → List Entry
laid e = if is_wide e then e ∷ Unused ∷ [] else e ∷ []
