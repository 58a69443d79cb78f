-- The parts of methods: what room they need, and what they are together.
use Rattle.std.proofs.Common.{◌≡◌, ℕ, zero, suc, ◌+◌, ◌*◌, ◌-◌, ◌≤◌, ◌<◌, false, List, [], ◌∷◌, ◌++◌, length, Result, refl, sym, ap, subst, ◌∙◌, arith, append_assoc}
use Rattle.std.specs.Prelude.{IsTrue, OnOk, Some, if◌then◌else◌, slice_get, ◌==◌}
use Rattle.jground.specs.jformat.StatefulFormats.{fits_from}
use Rattle.jparts.specs.declared.jpool.entry.Entry.TheVariants.{Class, Unused}
use Rattle.jparts.specs.jpool.PoolEntries.{shape, unused}
use Rattle.jparts.specs.jpool.ConstantPools.{IsPool, is_utf8}
use Rattle.jgen.specs.declared.draws.Kind.{Kind}
use Rattle.jgen.specs.declared.laying.Draft.{Draft}
use Rattle.jgen.specs.ClassFileItems.{Item, U1, U2, U4, have_room, most_of, widths, with_items, Str}
use Rattle.jgen.specs.ProofNames.{main_of}
use Rattle.jgen.specs.GeneratedClasses.{call, call_code, calls, class_items, f_method, head, init_method, main_method, name, privileged_code, run_method}
use Rattle.jgen.specs.MethodParts.{check_part, handler_part, main_end, main_part}
use Rattle.jgen.proofs.Rooms.{items_append, items_on, room_by, short_name, then_behind, then_items}

-- ---- names for what definitions say in place

-- the number of an item's bytes
abbrev width : Item → ℕ
width = elim [ U1 n ↦ 1 | U4 n ↦ 4 | Str text ↦ 1 | _ ↦ 2 ]

-- ---- room

pub head_room : (own : List ℕ) (methods : ℕ) (n : ℕ) → length own ≤ 0xff → n ≤ 1 → IsTrue (have_room n (head own methods))
unfolding most_of
head_room own methods n own_short few = let most : most_of (head own methods) ≡ 8 = refl in room_by 0xff n (head own methods) (rw (short_name own own_short) refl) refl (omega (arith, few, most))

pub init_room : (n : ℕ) → n ≤ 9 → IsTrue (have_room n (init_method))
unfolding most_of
init_room n few = let most : most_of (init_method) ≡ 9 = refl in room_by 0xff n (init_method) (refl) refl (omega (arith, few, most))

pub run_room : (own next : List ℕ) (n : ℕ) → length own ≤ 0xff → length next ≤ 0xff → n ≤ 18 → IsTrue (have_room n (run_method own next))
unfolding most_of
run_room own next n own_short next_short few = let most : most_of (run_method own next) ≡ 15 = refl in room_by 0xff n (run_method own next) (rw (short_name own own_short, short_name next next_short) refl) refl (omega (arith, few, most))

pub check_room : (attribute code : ℕ) (n : ℕ) → n ≤ 33 → IsTrue (have_room n (check_part attribute code))
unfolding most_of
check_room attribute code n few = let most : most_of (check_part attribute code) ≡ 21 = refl in room_by 0xff n (check_part attribute code) (refl) refl (omega (arith, few, most))

pub call_room : (next : List ℕ) (n : ℕ) → length next ≤ 0xff → n ≤ 54 → IsTrue (have_room n (call_code next))
unfolding most_of
call_room next n next_short few = let most : most_of (call_code next) ≡ 6 = refl in room_by 0xff n (call_code next) (rw (short_name next next_short) refl) refl (omega (arith, few, most))

pub privileged_room : (own : List ℕ) (n : ℕ) → length own ≤ 0xff → n ≤ 54 → IsTrue (have_room n (privileged_code own))
unfolding most_of
privileged_room own n own_short few = let most : most_of (privileged_code own) ≡ 20 = refl in room_by 0xff n (privileged_code own) (rw (short_name own own_short) refl) refl (omega (arith, few, most))

pub handler_room : (at behind : ℕ) (n : ℕ) → n ≤ 74 → IsTrue (have_room n (handler_part at behind))
unfolding most_of
handler_room at behind n few = let most : most_of (handler_part at behind) ≡ 5 = refl in room_by 0xff n (handler_part at behind) (refl) refl (omega (arith, few, most))

pub main_room : (attribute code : ℕ) (n : ℕ) → n ≤ 0xf0 → IsTrue (have_room n (main_part attribute code))
unfolding most_of
main_room attribute code n few = let most : most_of (main_part attribute code) ≡ 3 = refl in room_by 0xffff n (main_part attribute code) (refl) refl (omega (arith, few, most))

pub one_room : (name : List ℕ) (n : ℕ) → length name ≤ 0xff → n ≤ 0xfff0 → IsTrue (have_room n (call name))
unfolding most_of
one_room name n name_short few = let most : most_of (call name) ≡ 6 = refl in room_by 0xffff n (call name) (rw (short_name name name_short) refl) refl (omega (arith, few, most))

pub end_room : (n : ℕ) → n ≤ 0xffff → IsTrue (have_room n (main_end))
unfolding most_of
end_room n few = let most : most_of (main_end) ≡ 0 = refl in room_by 0xffff n (main_end) (refl) refl (omega (arith, few, most))

-- ---- main

widths_append : (a b : List Item) → widths (a ++ b) ≡ widths a + widths b
unfolding widths
widths_append [] b = let e : widths b ≡ 0 + widths b = omega arith in e
widths_append (item ∷ a) b =
    let e : width item + (widths a + widths b) ≡ (width item + widths a) + widths b = omega arith in
    ap (λ (x : ℕ). width item + x) (widths_append a b) ∙ e

calls_width : (i n : ℕ) → widths (calls i n) ≡ 5 * n
unfolding widths calls
calls_width i zero = refl
calls_width i (suc n) = widths_append (call (name i)) (calls (i + 1) n) ∙ ap (λ (x : ℕ). 5 + x) (calls_width (i + 1) n) ∙ omega arith

abbrev none : List Item
none = U2 0 ∷ []

abbrev main_code : ℕ → List Item
main_code size = calls 0 size ++ U1 0xb1 ∷ []

abbrev behind_main : ℕ → List Item
behind_main size = (main_code size ++ none) ++ none

code_width : (size : ℕ) → widths (main_code size) ≡ 5 * size + 1
unfolding widths
code_width size = widths_append (calls 0 size) (U1 0xb1 ∷ []) ∙ ap (λ (x : ℕ). x + 1) (calls_width 0 size)

behind_width : (size : ℕ) → widths (behind_main size) ≡ 5 * size + 5
unfolding widths
behind_width size =
    widths_append (main_code size ++ none) none ∙ ap (λ (x : ℕ). x + 2) (widths_append (main_code size) none)
    ∙ ap (λ (x : ℕ). x + 2 + 2) (code_width size) ∙ omega arith

behind_is : (size : ℕ) → behind_main size ≡ calls 0 size ++ main_end
behind_is size = append_assoc (main_code size) none none ∙ append_assoc (calls 0 size) (U1 0xb1 ∷ []) (none ++ none)

attribute_width : (size code : ℕ) → widths (U2 1 ∷ U2 1 ∷ U4 code ∷ behind_main size) ≡ 5 * size + 13
unfolding widths
attribute_width size code = ap (λ (x : ℕ). 2 + (2 + (4 + x))) (behind_width size) ∙ omega arith

main_by : (size : ℕ) → main_method size ≡ main_part (5 * size + 13) (5 * size + 1) ++ (calls 0 size ++ main_end)
main_by size =
    ap (λ (w : ℕ). main_part w (widths (main_code size)) ++ behind_main size) (attribute_width size (widths (main_code size)))
    ∙ ap (λ (w : ℕ). main_part (5 * size + 13) w ++ behind_main size) (code_width size)
    ∙ ap (λ (l : List Item). main_part (5 * size + 13) (5 * size + 1) ++ l) (behind_is size)

pub main_is : {T E : Type 0} (size attribute code : ℕ) (d one two new : Draft) (r : Result T E) → attribute ≡ 5 * size + 13 → code ≡ 5 * size + 1
    → one ≡ with_items (main_part attribute code) d → two ≡ with_items (calls 0 size) one → OnOk r (new ≡ with_items main_end two) → OnOk r (new ≡ with_items (main_method size) d)
main_is size attribute code d one two new r a c first second third =
    let front : one ≡ with_items (main_part (5 * size + 13) (5 * size + 1)) d =
    first ∙ ap (λ (n : ℕ). with_items (main_part n code) d) a ∙ ap (λ (n : ℕ). with_items (main_part (5 * size + 13) n) d) c in
    subst (λ (l : List Item). OnOk r (new ≡ with_items l d)) (sym (main_by size))
    (then_behind (main_part (5 * size + 13) (5 * size + 1)) (calls 0 size) main_end d one two new r front second third)

-- ---- calls

calls_step : (i size : ℕ) → i < size → calls i (size - i) ≡ call (name i) ++ calls (i + 1) (size - (i + 1))
unfolding calls
calls_step i size h = let e : size - i ≡ suc (size - (i + 1)) = omega (arith, h) in ap (calls i) e

pub calls_next : (i size : ℕ) (text : List ℕ) (d next all : Draft) → i < size → text ≡ name i → next ≡ with_items (call text) d → with_items (calls i (size - i)) d ≡ all
    → with_items (calls (i + 1) (size - (i + 1))) next ≡ all
calls_next i size text d next all h is put so_far =
    let rest = calls (i + 1) (size - (i + 1)) in
    ap (λ (x : Draft). with_items rest x) (put ∙ ap (λ (l : List ℕ). with_items (call l) d) is) ∙ sym (items_append (call (name i)) rest d)
    ∙ sym (ap (λ (l : List Item). with_items l d) (calls_step i size h)) ∙ so_far

pub calls_end : (i size : ℕ) (d all : Draft) → size ≤ i → with_items (calls i (size - i)) d ≡ all → d ≡ all
unfolding calls with_items
calls_end i size d all h so_far = let e : size - i ≡ 0 = omega (arith, h) in sym (ap (λ (n : ℕ). with_items (calls i n) d) e) ∙ so_far

pub no_main : (size i : ℕ) (d : Draft) → (i == 0) ≡ false → d ≡ with_items (main_of size i) d
unfolding with_items
no_main size i d h = rw h refl

-- ---- a class

abbrev class_by : ℕ → ℕ → Kind → List ℕ → List ℕ → ℕ → List Item
class_by size i kind own next methods = head own methods ++ init_method ++ run_method own next ++ f_method kind.privileged own next ++ main_of size i ++ none

class_items_by : (size i : ℕ) (kind : Kind) (own next : List ℕ) (methods : ℕ) → own ≡ name i → next ≡ name kind.next → methods ≡ (if i == 0 then 4 else 3)
    → class_by size i kind own next methods ≡ class_items size i kind
unfolding class_items
class_items_by size i kind own next methods a b m =
    ap (λ (n : ℕ). class_by size i kind own next n) m
    ∙ ap (λ (l : List ℕ). class_by size i kind l next (if i == 0 then 4 else 3)) a
    ∙ ap (λ (l : List ℕ). class_by size i kind (name i) l (if i == 0 then 4 else 3)) b

pub class_is : {T E : Type 0} (size i : ℕ) (kind : Kind) (own next : List ℕ) (methods : ℕ) (d one two three four five new : Draft) (r : Result T E)
    → own ≡ name i → next ≡ name kind.next → methods ≡ (if i == 0 then 4 else 3)
    → one ≡ with_items (head own methods) d → two ≡ with_items init_method one → three ≡ with_items (run_method own next) two → four ≡ with_items (f_method kind.privileged own next) three
    → five ≡ with_items (main_of size i) four → OnOk r (new ≡ with_items none five) → OnOk r (new ≡ with_items (class_items size i kind) d)
class_is size i kind own next methods d one two three four five new r a b m h1 h2 h3 h4 h5 h6 =
    let l1 = head own methods in
    let l2 = l1 ++ init_method in
    let l3 = l2 ++ run_method own next in
    let l4 = l3 ++ f_method kind.privileged own next in
    let l5 = l4 ++ main_of size i in
    let p2 = items_on l1 init_method d one two h1 h2 in
    let p3 = items_on l2 (run_method own next) d two three p2 h3 in
    let p4 = items_on l3 (f_method kind.privileged own next) d three four p3 h4 in
    let p5 = items_on l4 (main_of size i) d four five p4 h5 in
    subst (λ (l : List Item). OnOk r (new ≡ with_items l d)) (class_items_by size i kind own next methods a b m) (then_items l5 none d five new r p5 h6)

-- ---- the blank pool

none_named : (i n : ℕ) → slice_get (Unused ∷ []) i ≡ Some (Class n) → IsTrue (is_utf8 (Unused ∷ []) n)
none_named zero n h = absurd cc
none_named (suc i) n h = absurd cc

pub blank_pool : IsPool (Unused ∷ [])
unfolding shape unused fits_from
blank_pool = record { laid = refl; named = none_named }
