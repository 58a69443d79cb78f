-- An entry, what stands at an index, and the shape of a pool are formats.
use Rattle.std.proofs.Common.{◌≡◌, ℕ, ◌≤◌, Bool, true, false, not, cond, eqb, List, ◌++◌, length, Some, Ok, Err, refl, sym, ap, ◌∙◌, arith, inl, inr}
use Rattle.std.specs.Prelude.{IsTrue, None, ℤ, Option}
use Rattle.std.proofs.lemmas.Bool.{cases_Bool, eqb-true}
use Rattle.std.specs.Int.{w16, w32, w64}
use Rattle.jground.specs.declared.jformat.error.Fault.{Fault}
use Rattle.jground.specs.jformat.Format.{IsBytes, fault, ◌▹◌, void, known}
use Rattle.jground.specs.jformat.UnionFormats.{IsOnce}
use Rattle.jground.proofs.JformatProofs.ReadingSteps.{both, first_true, second_true, fault_within}
use Rattle.jground.proofs.JformatProofs.FormatLaws.{Takes, IsFormat, HasBytes, known_law, wide16, wide32, wide64, byte_law, number_law, signed_law, void_law, pair_law, then_law, via_law, as_case_law, cond_law}
use Rattle.jground.proofs.JformatProofs.Blocks.{sized_law}
use Rattle.jground.proofs.JformatProofs.UnionCases.{IsCases, case_law, either_law, union_law, union_some}
use Rattle.jground.proofs.JformatProofs.StatefulFormats.{counted_from_law}
use Rattle.jparts.specs.declared.jpool.entry.Entry.{Entry}
use Rattle.jparts.specs.declared.jpool.entry.Entry.TheVariants.{Unused, Integer, Float, Long, Double, Str, Field, Method, InterfaceMethod, MethodHandle, MethodType, InvokeDynamic}
use Rattle.jparts.specs.declared.jpool.fault.PoolFault.{PoolFault}
use Rattle.jparts.specs.declared.jpool.fault.PoolFault.TheVariants.{Truncated, BadTag}
use Rattle.jparts.specs.declared.jpool.slots.Slot.{Slot}
use Rattle.jparts.specs.jpool.PoolEntries.{u1, u2, u4, u8, i4, i8, two, cases, utf8_parts, class_parts, name_and_type_parts, entry, is_wide, begins_wide, narrow_at, narrow, unused, slot, next_slot, first_slot, slots, by_count, shape}

-- ---- names for what definitions say in place

abbrev integer_parts : Entry → Option ℤ
integer_parts = elim [ Integer n ↦ Some n | _ ↦ None ]

abbrev float_parts : Entry → Option ℕ
float_parts = elim [ Float bits ↦ Some bits | _ ↦ None ]

abbrev long_parts : Entry → Option ℤ
long_parts = elim [ Long n ↦ Some n | _ ↦ None ]

abbrev double_parts : Entry → Option ℕ
double_parts = elim [ Double bits ↦ Some bits | _ ↦ None ]

abbrev str_parts : Entry → Option ℕ
str_parts = elim [ Str text ↦ Some text | _ ↦ None ]

abbrev field_parts : Entry → Option (ℕ × ℕ)
field_parts = elim [ Field class both ↦ Some (class, both) | _ ↦ None ]

abbrev method_parts : Entry → Option (ℕ × ℕ)
method_parts = elim [ Method class both ↦ Some (class, both) | _ ↦ None ]

abbrev interface_method_parts : Entry → Option (ℕ × ℕ)
interface_method_parts = elim [ InterfaceMethod class both ↦ Some (class, both) | _ ↦ None ]

abbrev handle_parts : Entry → Option (ℕ × ℕ)
handle_parts = elim [ MethodHandle kind member ↦ Some (kind, member) | _ ↦ None ]

abbrev method_type_parts : Entry → Option ℕ
method_type_parts = elim [ MethodType descriptor ↦ Some descriptor | _ ↦ None ]

abbrev dynamic_parts : Entry → Option (ℕ × ℕ)
dynamic_parts = elim [ InvokeDynamic bootstrap both ↦ Some (bootstrap, both) | _ ↦ None ]

abbrev unused_parts : Entry → Option (Unit {0})
unused_parts = elim [ Unused ↦ Some tt | _ ↦ None ]

u2_law : IsFormat u2
u2_law = number_law w16 Truncated wide16

u4_law : IsFormat u4
u4_law = number_law w32 Truncated wide32

u8_law : IsFormat u8
u8_law = number_law w64 Truncated wide64

i4_law : IsFormat i4
i4_law = signed_law w32 Truncated wide32

i8_law : IsFormat i8
i8_law = signed_law w64 Truncated wide64

two_law : IsFormat two
two_law = pair_law u2 u2 u2_law u2_law

cases_law : IsCases cases
cases_law =
    either_law refl (case_law utf8_parts (λ p. refl) (sized_law u2 Truncated u2_law))
    (either_law refl (case_law integer_parts (λ p. refl) i4_law)
    (either_law refl (case_law float_parts (λ p. refl) u4_law)
    (either_law refl (case_law long_parts (λ p. refl) i8_law)
    (either_law refl (case_law double_parts (λ p. refl) u8_law)
    (either_law refl (case_law class_parts (λ p. refl) u2_law)
    (either_law refl (case_law str_parts (λ p. refl) u2_law)
    (either_law refl (case_law field_parts (λ p. refl) two_law)
    (either_law refl (case_law method_parts (λ p. refl) two_law)
    (either_law refl (case_law interface_method_parts (λ p. refl) two_law)
    (either_law refl (case_law name_and_type_parts (λ p. refl) two_law)
    (either_law refl (case_law handle_parts (λ p. refl) (pair_law u1 u2 (byte_law Truncated) u2_law))
    (either_law refl (case_law method_type_parts (λ p. refl) u2_law)
    (case_law dynamic_parts (λ p. refl) two_law)))))))))))))

-- each entry is of one form alone
once : (e : Entry) → IsOnce cases e
once Unused = (refl, refl)
once _ = (refl, refl)

pub entry_law : IsFormat entry
unfolding entry
entry_law = union_law Truncated (λ _. BadTag) cases once cases_law

-- each entry's spelling has a byte
pub entry_some : HasBytes entry
unfolding entry
entry_some = union_some Truncated (λ _. BadTag) cases cases_law

-- ---- what stands at an index

-- a spelling begins with the tag of an entry of two indices exactly where the entry is one
wide_begins : (e : Entry) (rest : List ℕ) → IsTrue (entry.fits e) → begins_wide (entry.spell e ++ rest) ≡ is_wide e
unfolding entry
wide_begins Unused rest fit = absurd cc
wide_begins _ rest fit = refl

pub not_wide : (b : Bool) → IsTrue (not b) → b ≡ false
not_wide true h = absurd cc
not_wide false h = refl

narrow_takes : (bytes : List ℕ) (x : Entry × List ℕ) → IsBytes bytes → narrow_at bytes ≡ Ok x → Takes narrow.spell narrow.fits bytes x
unfolding narrow
narrow_takes bytes x fits e =
    elim (cases_Bool (begins_wide bytes)) [
      | inl wide ↦ let no : fault {A = Entry × List ℕ} BadTag bytes ≡ Ok x = rw wide at e in absurd cc
      | inr other ↦
          let e' : entry.read bytes ≡ Ok x = rw other at e in
          let s = entry_law.takes bytes x fits e' in
          let is : is_wide x.0 ≡ false = sym (wide_begins x.0 x.1 s.fit) ∙ ap begins_wide (sym s.parts) ∙ other in
          record { parts = s.parts; rest_fits = s.rest_fits; fit = both _ _ s.fit (rw is refl) }
    ]

narrow_again : (e : Entry) (rest : List ℕ) → IsTrue (narrow.fits e) → narrow.read (narrow.spell e ++ rest) ≡ Ok (e, rest)
unfolding narrow
narrow_again e rest fit =
    let good : IsTrue (entry.fits e) = first_true (entry.fits e) (not (is_wide e)) fit in
    let is : is_wide e ≡ false = not_wide (is_wide e) (second_true (entry.fits e) (not (is_wide e)) fit) in
    let other : begins_wide (entry.spell e ++ rest) ≡ false = wide_begins e rest good ∙ is in
    rw other (entry_law.again e rest good)

narrow_within : (bytes : List ℕ) (d : Fault PoolFault) → narrow_at bytes ≡ Err d → d.left ≤ length bytes
narrow_within bytes d e =
    elim (cases_Bool (begins_wide bytes)) [
      | inl wide ↦ let no : fault {A = Entry × List ℕ} BadTag bytes ≡ Err d = rw wide at e in fault_within BadTag bytes bytes d (omega arith) cc
      | inr other ↦ entry_law.reading.within bytes d (rw other at e)
    ]

narrow_shorter : (bytes : List ℕ) (x : Entry × List ℕ) → narrow_at bytes ≡ Ok x → length x.1 ≤ length bytes
narrow_shorter bytes x e =
    elim (cases_Bool (begins_wide bytes)) [
      | inl wide ↦ let no : fault {A = Entry × List ℕ} BadTag bytes ≡ Ok x = rw wide at e in absurd cc
      | inr other ↦ entry_law.reading.shorter bytes x (rw other at e)
    ]

narrow_law : IsFormat narrow
unfolding narrow
narrow_law = record { takes = narrow_takes; again = narrow_again; reading = record { within = narrow_within; shorter = narrow_shorter } }

unused_forth : (e : Entry) (u : Unit {0}) → unused_parts e ≡ Some u → e ≡ Unused
unused_forth Unused u h = refl
unused_forth _ u h = absurd cc

pub unused_law : IsFormat unused
unfolding unused
unused_law = as_case_law (λ _. Unused) unused_parts void (λ u. refl) unused_forth void_law

pub slot_law : (s : Slot) → IsFormat (slot s)
slot_law s = cond_law s.taken unused (cond (eqb s.left 1) narrow entry) unused_law (cond_law (eqb s.left 1) narrow entry narrow_law entry_law)

-- ---- the shape of a pool

slots_law : (n : ℕ) → IsFormat (slots n)
slots_law n = counted_from_law (known n) slot next_slot (known_law n) slot_law (first_slot n)

known_fits : (n k : ℕ) → IsTrue ((known {K = PoolFault} n).fits k) → k ≡ n
known_fits n k h = elim (cases_Bool (eqb k n)) [ inl hit ↦ eqb-true _ _ hit | inr miss ↦ let no : false ≡ true = rw miss at h in absurd cc ]

pub shape_law : IsFormat shape
unfolding shape
shape_law = via_law (λ p. p.1) by_count (u2 ▹ slots)
    (λ p fit.
    let one = second_true (u2.fits p.0) ((slots p.0).fits p.1) fit in
    let len : length p.1 ≡ p.0 = known_fits p.0 (length p.1) (second_true _ ((known {K = PoolFault} p.0).fits (length p.1)) one) in
    ap (λ (n : ℕ). (n, p.1)) len)
    (λ es fit. refl)
    (then_law u2 slots u2_law slots_law)
