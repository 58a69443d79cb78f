-- The entries of a constant pool, as they are spelled (JVMS 4.4).
use Rattle.std.specs.Prelude.{ℕ, ℤ, Bool, true, false, ◌||◌, ◌&&◌, not, ◌-◌, List, [], ◌∷◌, length, Option, Some, None, nat_lt, ◌==◌, if◌then◌else◌}
use Rattle.std.specs.Int.{w16, w32, w64}
use Rattle.jground.specs.jformat.Format.{Answer, Format, fault, byte, number, signed, void, ◌·◌, ◌▹◌, via, as_case, known}
use Rattle.jground.specs.jformat.BodyFormats.{sized}
use Rattle.jground.specs.jformat.StatefulFormats.{counted_from}
use Rattle.jground.specs.jformat.UnionFormats.{Cases, case, two_of, ◌∣◌, union}
use Rattle.jparts.specs.declared.jpool.entry.Entry.{Entry}
use Rattle.jparts.specs.declared.jpool.entry.Entry.TheVariants.{Unused, Utf8, Integer, Float, Long, Double, Class, Str, Field, Method, InterfaceMethod, NameAndType, MethodHandle, MethodType, InvokeDynamic}
use Rattle.jparts.specs.declared.jpool.fault.PoolFault.{PoolFault}
use Rattle.jparts.specs.declared.jpool.fault.PoolFault.TheVariants.{Truncated, BadTag}
use Rattle.jparts.specs.declared.jpool.slots.Slot.{Slot}

-- ---- numbers and texts

abbrev pub u1 : Format PoolFault ℕ
u1 = byte Truncated

abbrev pub u2 : Format PoolFault ℕ
u2 = number w16 Truncated

abbrev pub u4 : Format PoolFault ℕ
u4 = number w32 Truncated

abbrev pub u8 : Format PoolFault ℕ
u8 = number w64 Truncated

abbrev pub i4 : Format PoolFault ℤ
i4 = signed w32 Truncated

abbrev pub i8 : Format PoolFault ℤ
i8 = signed w64 Truncated

abbrev pub text : Format PoolFault (List ℕ)
text = sized u2 Truncated

abbrev pub two : Format PoolFault (ℕ × ℕ)
two = u2 · u2

-- ---- the parts of an entry of each form

abbrev pub utf8_parts : Entry → Option (List ℕ)
utf8_parts = elim [ Utf8 text ↦ Some text | _ ↦ None ]

abbrev pub class_parts : Entry → Option ℕ
class_parts = elim [ Class name ↦ Some name | _ ↦ None ]

abbrev pub name_and_type_parts : Entry → Option (ℕ × ℕ)
name_and_type_parts = elim [ NameAndType name descriptor ↦ Some (name, descriptor) | _ ↦ None ]

-- ---- an entry

-- the tag of each form (JVMS 4.4, table 4.4-A), and what stands behind it
abbrev pub cases : Cases PoolFault Entry
cases =
    case 1 Utf8 utf8_parts text
    ∣ case 3 Integer (elim [ Integer n ↦ Some n | _ ↦ None ]) i4
    ∣ case 4 Float (elim [ Float bits ↦ Some bits | _ ↦ None ]) u4
    ∣ case 5 Long (elim [ Long n ↦ Some n | _ ↦ None ]) i8
    ∣ case 6 Double (elim [ Double bits ↦ Some bits | _ ↦ None ]) u8
    ∣ case 7 Class class_parts u2
    ∣ case 8 Str (elim [ Str text ↦ Some text | _ ↦ None ]) u2
    ∣ case 9 (two_of Field) (elim [ Field class both ↦ Some (class, both) | _ ↦ None ]) two
    ∣ case 10 (two_of Method) (elim [ Method class both ↦ Some (class, both) | _ ↦ None ]) two
    ∣ case 11 (two_of InterfaceMethod) (elim [ InterfaceMethod class both ↦ Some (class, both) | _ ↦ None ]) two
    ∣ case 12 (two_of NameAndType) name_and_type_parts two
    ∣ case 15 (two_of MethodHandle) (elim [ MethodHandle kind member ↦ Some (kind, member) | _ ↦ None ]) (u1 · u2)
    ∣ case 16 MethodType (elim [ MethodType descriptor ↦ Some descriptor | _ ↦ None ]) u2
    ∣ case 18 (two_of InvokeDynamic) (elim [ InvokeDynamic bootstrap both ↦ Some (bootstrap, both) | _ ↦ None ]) two

-- an entry that has a spelling of its own
unfoldable pub entry : Format PoolFault Entry
entry = union Truncated (λ _. BadTag) cases

-- the entry of one index that a tag stands for
abbrev pub by_one : ℕ → ℕ → Entry
by_one tag index = if tag == 7 then Class index else if tag == 8 then Str index else MethodType index

-- the entry of two indices that a tag stands for
abbrev pub by_two : ℕ → ℕ × ℕ → Entry
by_two tag p =
    if tag == 9 then two_of Field p
    else if tag == 10 then two_of Method p
    else if tag == 11 then two_of InterfaceMethod p
    else if tag == 12 then two_of NameAndType p
    else two_of InvokeDynamic p

-- the first byte is above this one
abbrev pub is_above : ℕ → List ℕ → Bool
is_above tag [] = false
is_above tag (b ∷ rest) = nat_lt tag b

-- ---- the entries by their indices

-- an entry that takes two indices
abbrev pub is_wide : Entry → Bool
is_wide = elim [ Long a ↦ true | Double a ↦ true | _ ↦ false ]

abbrev pub begins_wide : List ℕ → Bool
begins_wide = elim [ [] ↦ false | b ∷ rest ↦ b == 5 || b == 6 ]

abbrev pub narrow_at : List ℕ → Answer PoolFault Entry
narrow_at bytes = if begins_wide bytes then fault BadTag bytes else entry.read bytes

-- an entry that takes one index; the tag of another is a fault of its own
unfoldable pub narrow : Format PoolFault Entry
narrow = record { spell = entry.spell; fits = λ e. entry.fits e && not (is_wide e); read = narrow_at }

-- no bytes at all
unfoldable pub unused : Format PoolFault Entry
unused = as_case (λ _. Unused) (elim [ Unused ↦ Some tt | _ ↦ None ]) void

-- what stands at an index: nothing at index 0 and behind an entry of two indices, and no such entry at the last index
abbrev pub slot : Slot → Format PoolFault Entry
slot s = if s.taken then unused else if s.left == 1 then narrow else entry

abbrev pub next_slot : Slot → Entry → Slot
next_slot s e = record { left = s.left - 1; taken = is_wide e }

abbrev pub first_slot : ℕ → Slot
first_slot count = record { left = count; taken = true }

abbrev pub slots : ℕ → Format PoolFault (List Entry)
slots count = counted_from (known count) slot next_slot (first_slot count)

abbrev pub by_count : List Entry → ℕ × List Entry
by_count entries = (length entries, entries)

-- The number of the indices, and what stands at each, from index 0 on. A pool without indices is spelled by the number 0.
unfoldable pub shape : Format PoolFault (List Entry)
shape = via (λ p. p.1) by_count (u2 ▹ slots)

-- the number of bytes of an entry
unfoldable pub size : Entry → ℕ
size e = length (entry.spell e)
