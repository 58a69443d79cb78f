-- A pool with one more entry behind the others is a pool.
use Rattle.std.proofs.Common.{◌≡◌, ℕ, zero, suc, ◌+◌, ◌-◌, ◌≤◌, ◌<◌, Bool, true, false, not, cond, eqb, List, [], ◌∷◌, ◌++◌, length, Option, Some, None, refl, sym, ap, subst, ◌∙◌, arith, inl, inr}
use Rattle.std.specs.Prelude.{IsTrue, is_some, slice_get, ◌⊎◌, option_and_then}
use Rattle.std.proofs.lemmas.Bool.{cases_Bool, ltb-true, lt-ltb}
use Rattle.std.proofs.lemmas.List.{length-append}
use Rattle.jground.specs.jformat.StatefulFormats.{fits_from}
use Rattle.jground.specs.declared.jformat.error.Fault.{Fault}
use Rattle.jground.proofs.JformatProofs.ReadingSteps.{both, first_true, ok_is, second_true}
use Rattle.jparts.specs.declared.jpool.fault.PoolFault.{PoolFault}
use Rattle.jparts.specs.declared.jpool.entry.Entry.{Entry}
use Rattle.jparts.specs.declared.jpool.entry.Entry.TheVariants.{Unused, Class}
use Rattle.jparts.specs.declared.jpool.slots.Slot.{Slot}
use Rattle.jparts.specs.jpool.PoolEntries.{entry, is_wide, narrow, unused, slot, next_slot, first_slot, shape, utf8_parts}
use Rattle.jparts.specs.jpool.ConstantPools.{is_utf8, IsPool}
use Rattle.jparts.specs.jpool.EntryLayouts.{laid, names_text}
use Rattle.jparts.proofs.JpoolProofs.EntryLaws.{not_wide, unused_law}

abbrev pub at_slot : ℕ → Bool → Slot
at_slot left taken = record { left = left; taken = taken }

abbrev pub fits_slots : Slot → List Entry → Bool
fits_slots = fits_from (λ t. (slot t).fits) next_slot

-- ---- what stands at an index

pub unused_is : (x : Entry) → IsTrue (unused.fits x) → x ≡ Unused
unfolding unused
unused_is x fit =
    let e = unused_law.again x [] fit in
    sym (ap (λ (p : Entry × List ℕ). p.0) (ok_is (Fault PoolFault) (Unused, unused.spell x ++ []) (x, []) e))

-- an entry of its own, or none
pub slot_is : (s : Slot) (x : Entry) → IsTrue ((slot s).fits x) → (x ≡ Unused) ⊎ IsTrue (entry.fits x)
unfolding narrow
slot_is s x fit =
    elim (cases_Bool s.taken) [
      | inl taken ↦ inl (unused_is x (rw taken at fit))
      | inr free ↦
          elim (cases_Bool (eqb s.left 1)) [
            | inl last ↦ inr (first_true (entry.fits x) (not (is_wide x)) (rw (free, last) at fit))
            | inr more ↦ inr (rw (free, more) at fit)
          ]
    ]

pub each_is : (es : List Entry) (s : Slot) (i : ℕ) (x : Entry) → IsTrue (fits_slots s es) → slice_get es i ≡ Some x → (x ≡ Unused) ⊎ IsTrue (entry.fits x)
unfolding fits_from
each_is [] s i x fit at = absurd cc
each_is (y ∷ ys) s zero x fit at =
    let same : y ≡ x = cc in
    subst (λ (z : Entry). (z ≡ Unused) ⊎ IsTrue (entry.fits z)) same (slot_is s y (first_true ((slot s).fits y) (fits_slots (next_slot s y) ys) fit))
each_is (y ∷ ys) s (suc i) x fit at = each_is ys (next_slot s y) i x (second_true ((slot s).fits y) (fits_slots (next_slot s y) ys) fit) at

-- ---- the shape of a pool in its parts

pub laid_slots : (es : List Entry) → IsTrue (shape.fits es) → IsTrue (fits_slots (first_slot (length es)) es)
unfolding shape
laid_slots es h = first_true _ _ (second_true _ _ h)

pub laid_count : (es : List Entry) → IsTrue (shape.fits es) → length es < 65536
unfolding shape
laid_count es h = ltb-true (length es) 65536 (first_true _ _ h)

pub laid_back : (es : List Entry) → length es < 65536 → IsTrue (fits_slots (first_slot (length es)) es) → IsTrue (shape.fits es)
unfolding shape
laid_back es lt h = let same : eqb (length es) (length es) ≡ true = grind arith in both _ _ (lt-ltb (length es) 65536 lt) (both _ _ h (rw same refl))

-- ---- one more entry

-- where more indices follow, what fits at one fits there still
slot_more : (s : Slot) (m : ℕ) (x : Entry) → 0 < s.left → 0 < m → IsTrue ((slot s).fits x) → IsTrue ((slot (at_slot (s.left + m) s.taken)).fits x)
unfolding narrow
slot_more s m x some more fit =
    let not_last : eqb (s.left + m) 1 ≡ false = grind arith in
    elim (cases_Bool s.taken) [
      | inl taken ↦ rw taken (rw taken at fit)
      | inr free ↦
          elim (cases_Bool (eqb s.left 1)) [
            | inl last ↦ rw (free, not_last) (first_true (entry.fits x) (not (is_wide x)) (rw (free, last) at fit))
            | inr other ↦ rw (free, not_last) (rw (free, other) at fit)
          ]
    ]

unused_narrow : (x : Entry) → x ≡ Unused → is_wide x ≡ false
unused_narrow x h = ap is_wide h

-- no entry of two indices stands at the last index
last_is : (s : Slot) (x : Entry) → s.left ≡ 1 → IsTrue ((slot s).fits x) → is_wide x ≡ false
unfolding narrow
last_is s x one fit =
    let last : eqb s.left 1 ≡ true = rw one refl in
    elim (cases_Bool s.taken) [
      | inl taken ↦ unused_narrow x (unused_is x (rw taken at fit))
      | inr free ↦ not_wide (is_wide x) (second_true (entry.fits x) (not (is_wide x)) (rw (free, last) at fit))
    ]

abbrev behind : Slot → ℕ → Slot
behind s m = at_slot (s.left + m) s.taken

next_behind : (s : Slot) (m : ℕ) (x : Entry) → 0 < s.left → behind (next_slot s x) m ≡ next_slot (behind s m) x
next_behind s m x some = let n : s.left - 1 + m ≡ s.left + m - 1 = omega arith in ap (λ (k : ℕ). at_slot k (is_wide x)) n

grow : (s : Slot) (es tail : List Entry) → s.left ≡ length es → 0 < length es → 0 < length tail → IsTrue (fits_slots s es) → IsTrue (fits_slots (at_slot (length tail) false) tail) → IsTrue (fits_slots (behind s (length tail)) (es ++ tail))
unfolding fits_from
grow s [] tail len some more fit rest = absurd (omega arith)
grow s (x ∷ []) tail len some more fit rest =
    let here = first_true ((slot s).fits x) true fit in
    let left : length tail ≡ s.left + length tail - 1 = omega arith in
    let free : false ≡ is_wide x = sym (last_is s x (omega arith) here) in
    let next : at_slot (length tail) false ≡ next_slot (behind s (length tail)) x = ap (λ (k : ℕ). at_slot k false) left ∙ ap (at_slot (s.left + length tail - 1)) free in
    both _ _ (slot_more s (length tail) x (omega arith) more here) (subst (λ (t : Slot). IsTrue (fits_slots t tail)) next rest)
grow s (x ∷ y ∷ ys) tail len some more fit rest =
    let here = first_true ((slot s).fits x) (fits_slots (next_slot s x) (y ∷ ys)) fit in
    let others = second_true ((slot s).fits x) (fits_slots (next_slot s x) (y ∷ ys)) fit in
    let left : s.left - 1 ≡ length (y ∷ ys) = omega arith in
    let grown = grow (next_slot s x) (y ∷ ys) tail left (omega arith) more others rest in
    both _ _ (slot_more s (length tail) x (omega arith) more here) (subst (λ (t : Slot). IsTrue (fits_slots t (y ∷ ys ++ tail))) (next_behind s (length tail) x (omega arith)) grown)

-- ---- the entries that are added

fits_one : (e : Entry) (wide : Bool) → is_wide e ≡ wide → IsTrue (entry.fits e) → let tail : List Entry = cond wide (e ∷ Unused ∷ []) (e ∷ []) in IsTrue (fits_slots (at_slot (length tail) false) tail)
unfolding fits_from narrow unused
fits_one e true is fit = both _ _ fit (rw is refl)
fits_one e false is fit = both _ _ (both _ _ fit (rw is refl)) refl

laid_fits : (e : Entry) → IsTrue (entry.fits e) → IsTrue (fits_slots (at_slot (length (laid e)) false) (laid e))
laid_fits e fit = fits_one e (is_wide e) refl fit

some_laid : (e : Entry) (wide : Bool) → 0 < length (cond wide (e ∷ Unused ∷ []) (e ∷ []))
some_laid e true = omega arith
some_laid e false = omega arith

in_cond : (e x : Entry) (wide : Bool) (j : ℕ) → slice_get (cond wide (e ∷ Unused ∷ []) (e ∷ [])) j ≡ Some x → (x ≡ e) ⊎ (x ≡ Unused)
in_cond e x true zero at = inl cc
in_cond e x true (suc zero) at = inr cc
in_cond e x true (suc (suc j)) at = absurd cc
in_cond e x false zero at = inl cc
in_cond e x false (suc j) at = absurd cc

-- ---- what the classes name

pub get_front : (xs ys : List Entry) (i : ℕ) (x : Entry) → slice_get xs i ≡ Some x → slice_get (xs ++ ys) i ≡ Some x
get_front [] ys i x at = absurd cc
get_front (y ∷ xs) ys zero x at = at
get_front (y ∷ xs) ys (suc i) x at = get_front xs ys i x at

get_either : (xs ys : List Entry) (i : ℕ) (x : Entry) → slice_get (xs ++ ys) i ≡ Some x → (slice_get xs i ≡ Some x) ⊎ ((j : ℕ) × (slice_get ys j ≡ Some x))
get_either [] ys i x at = inr (i, at)
get_either (y ∷ xs) ys zero x at = inl at
get_either (y ∷ xs) ys (suc i) x at = get_either xs ys i x at

text_still : (es tail : List Entry) (i : ℕ) (o : Option Entry) → slice_get es i ≡ o → IsTrue (is_some (option_and_then utf8_parts o)) → IsTrue (is_some (option_and_then utf8_parts (slice_get (es ++ tail) i)))
text_still es tail i None is h = absurd cc
text_still es tail i (Some x) is h = rw (get_front es tail i x is) h

utf8_still : (es tail : List Entry) (i : ℕ) → IsTrue (is_utf8 es i) → IsTrue (is_utf8 (es ++ tail) i)
unfolding is_utf8
utf8_still es tail i h = text_still es tail i (slice_get es i) refl h

named_on : (e : Entry) (es : List Entry) → IsPool es → IsTrue (names_text es e) → (i name : ℕ) → slice_get (es ++ laid e) i ≡ Some (Class name) → IsTrue (is_utf8 (es ++ laid e) name)
named_on e es P named i name at =
    utf8_still es (laid e) name (elim (get_either es (laid e) i (Class name) at) [
      | inl old ↦ P.named i name old
      | inr new ↦
          elim (in_cond e (Class name) (is_wide e) new.0 new.1) [
            | inl this ↦ subst (λ (x : Entry). IsTrue (names_text es x)) (sym this) named
            | inr none ↦ absurd cc
          ]
    ])

pub pool_with : (e : Entry) (es : List Entry) → IsPool es → 0 < length es → IsTrue (entry.fits e) → IsTrue (names_text es e) → length es + length (laid e) ≤ 65535 → IsPool (es ++ laid e)
pool_with e es P some fit named few =
    let len : length (es ++ laid e) ≡ length es + length (laid e) = length-append es (laid e) in
    let grown = grow (first_slot (length es)) es (laid e) refl some (some_laid e (is_wide e)) (laid_slots es P.laid) (laid_fits e fit) in
    record {
      laid = laid_back (es ++ laid e) (omega arith) (subst (λ (k : ℕ). IsTrue (fits_slots (first_slot k) (es ++ laid e))) (sym len) grown);
      named = named_on e es P named;
    }
