-- A constant pool: its look-ups, and what its entries may name (JVMS 4.4).
use Rattle.std.specs.Prelude.{◌≡◌, ℕ, Bool, ◌||◌, ◌&&◌, ◌+◌, ◌-◌, List, [], ◌∷◌, ◌++◌, length, Option, Some, None, is_some, IsTrue, slice_get, if◌then◌else◌}
use Rattle.std.specs.Option.{option_map, option_and_then}
use Rattle.std.specs.List.{list_all}
use Rattle.jground.specs.jbase.MemoryFailures.{◌>>=◌}
use Rattle.jground.specs.jbase.FirstFaults.{or_else}
use Rattle.jground.specs.declared.jformat.error.Fault.{Fault}
use Rattle.jground.specs.jformat.Format.{Format, is_good, unless, unless_fault}
use Rattle.jparts.specs.declared.jpool.entry.Entry.{Entry}
use Rattle.jparts.specs.declared.jpool.entry.Entry.TheVariants.{Class, Str, Field, Method, InterfaceMethod, NameAndType}
use Rattle.jparts.specs.declared.jpool.fault.PoolFault.{PoolFault}
use Rattle.jparts.specs.declared.jpool.fault.PoolFault.TheVariants.{BadIndex, BadName, BadDescriptor}
use Rattle.jparts.specs.jpool.ClassNames.{is_class_name}
use Rattle.jparts.specs.jpool.Descriptors.{is_array_descriptor, is_field_descriptor, is_method_descriptor}
use Rattle.jparts.specs.jpool.PoolEntries.{shape, size, utf8_parts, class_parts, name_and_type_parts}

-- ---- look-ups

-- the text at an index
unfoldable pub utf8_at : List Entry → ℕ → Option (List ℕ)
utf8_at entries i = option_and_then utf8_parts (slice_get entries i)

-- the text that the class at an index names
unfoldable pub class_name_at : List Entry → ℕ → Option (List ℕ)
class_name_at entries i = option_and_then (utf8_at entries) (option_and_then class_parts (slice_get entries i))

-- the indices of the name and of the descriptor at an index
unfoldable pub name_and_type_at : List Entry → ℕ → Option (ℕ × ℕ)
name_and_type_at entries i = option_and_then name_and_type_parts (slice_get entries i)

unfoldable pub is_utf8 : List Entry → ℕ → Bool
is_utf8 entries i = is_some (option_and_then utf8_parts (slice_get entries i))

unfoldable pub is_class : List Entry → ℕ → Bool
is_class entries i = is_some (option_and_then class_parts (slice_get entries i))

unfoldable pub is_name_and_type : List Entry → ℕ → Bool
is_name_and_type entries i = is_some (option_and_then name_and_type_parts (slice_get entries i))

-- ---- what an entry may name

abbrev pub name_fault : Option (List ℕ) → Option PoolFault
name_fault = elim [ None ↦ Some BadIndex | Some text ↦ if is_class_name text || is_array_descriptor text then None else Some BadName ]

abbrev pub descriptor_fault : Option (List ℕ) → Option PoolFault
descriptor_fault = elim [ None ↦ Some BadIndex | Some t ↦ if is_field_descriptor t || is_method_descriptor t then None else Some BadDescriptor ]

abbrev pub member_fault : List Entry → ℕ → ℕ → Option PoolFault
member_fault entries class both = unless (is_class entries class && is_name_and_type entries both) BadIndex

-- an entry's fault among all entries
unfoldable pub entry_fault : List Entry → Entry → Option PoolFault
entry_fault entries (Class name) = name_fault (utf8_at entries name)
entry_fault entries (Str text) = unless (is_utf8 entries text) BadIndex
entry_fault entries (Field class both) = member_fault entries class both
entry_fault entries (Method class both) = member_fault entries class both
entry_fault entries (InterfaceMethod class both) = member_fault entries class both
entry_fault entries (NameAndType name descriptor) = if is_utf8 entries name then descriptor_fault (utf8_at entries descriptor) else Some BadIndex
entry_fault entries _ = None

-- ---- the pool

abbrev pub faulty : {K : Type 0} → ℕ → Option K → Option (Fault K)
faulty left kind = option_map (λ k. record { left = left; kind = k }) kind

-- the first entry with a fault, at its tag byte, where so many bytes are left at the first entry
unfoldable pub first_fault : {K : Type 0} → (Entry → Option K) → ℕ → List Entry → Option (Fault K)
first_fault test left [] = None
first_fault test left (e ∷ es) = or_else (faulty left (test e)) (first_fault test (left - size e) es)

unfoldable pub no_fault : List Entry → Bool
no_fault entries = list_all (λ e. is_good (entry_fault entries e)) entries

-- The entries' shape first, and then, entry by entry, what they name.
unfoldable pub pool : Format PoolFault (List Entry)
pool = record {
  spell = shape.spell;
  fits = λ entries. shape.fits entries && no_fault entries;
  read = λ bytes. shape.read bytes >>= λ x. unless_fault x (first_fault (entry_fault x.0) (length bytes - 2) x.0);
}

-- what each pool keeps: its entries have a spelling, and each class names a text
pub record IsPool (entries : List Entry) : Type 0 where
  pub laid : IsTrue (shape.fits entries)
  pub named : (i name : ℕ) → slice_get entries i ≡ Some (Class name) → IsTrue (is_utf8 entries name)

-- The entries are spelled at the front of the bytes, and these bytes stand behind them.
abbrev pub Spells : List ℕ → List Entry → List ℕ → Type 0
Spells bytes entries rest = IsTrue (pool.fits entries) × (bytes ≡ pool.spell entries ++ rest)

-- the offset behind a pool that is spelled at an offset
abbrev pub behind_pool : ℕ → List Entry → ℕ
behind_pool at entries = at + length (pool.spell entries)
