-- Items that are put one behind the other, and the room that they need.
use Rattle.std.proofs.Common.{◌≡◌, ℕ, ◌+◌, ◌≤◌, ◌<◌, Bool, true, ◌&&◌, List, [], ◌∷◌, ◌++◌, map, length, get_or, drop, Result, Ok, Err, refl, sym, ap, subst, ◌∙◌, arith}
use Rattle.std.specs.Prelude.{IsTrue, OnOk, nat_le}
use Rattle.std.proofs.lemmas.Bool.{leb-true, le-leb}
use Rattle.std.proofs.lemmas.List.{drop_all, drop_more}
use Rattle.jground.proofs.JformatProofs.ReadingSteps.{both, first_true, second_true}
use Rattle.jgen.specs.declared.class_file_item.ClassFileItem.{ClassFileItem}
use Rattle.jgen.specs.declared.laying.Draft.{Draft}
use Rattle.jgen.specs.ClassFileItems.{Item, greatest, has_room, have_room, is_named_shortly, item_of, most, most_of, with_item, with_items}

-- ---- room

has_fewer : (m n : ℕ) (item : Item) → n ≤ m → IsTrue (has_room m item) → IsTrue (has_room n item)
has_fewer m n item less h =
    both (is_named_shortly item) (nat_le (n + most item) (greatest item)) (first_true (is_named_shortly item) (nat_le (m + most item) (greatest item)) h)
    (le-leb (n + most item) (greatest item) (omega (arith, leb-true (m + most item) (greatest item) (second_true (is_named_shortly item) (nat_le (m + most item) (greatest item)) h))))

-- behind fewer entries there is room as well
pub have_fewer : (m n : ℕ) (items : List Item) → n ≤ m → IsTrue (have_room m items) → IsTrue (have_room n items)
unfolding have_room
have_fewer m n [] less h = refl
have_fewer m n (item ∷ items) less h =
    both (has_room n item) (have_room (n + most item) items) (has_fewer m n item less (first_true (has_room m item) (have_room (m + most item) items) h))
    (have_fewer (m + most item) (n + most item) items (omega arith) (second_true (has_room m item) (have_room (m + most item) items) h))

-- ---- the pieces of a loop

drop_item : (ps : List ClassFileItem) (i : ℕ) (p : ClassFileItem) → i < length ps → map item_of (drop i ps) ≡ item_of (get_or ps i p) ∷ map item_of (drop (i + 1) ps)
drop_item ps i p h = ap (λ (l : List ClassFileItem). map item_of l) (drop_more ps i p h)

room_at : (ps : List ClassFileItem) (i n : ℕ) (p : ClassFileItem) → i < length ps → IsTrue (have_room n (map item_of (drop i ps)))
    → IsTrue (has_room n (item_of (get_or ps i p)) && have_room (n + most (item_of (get_or ps i p))) (map item_of (drop (i + 1) ps)))
unfolding have_room
room_at ps i n p h room = subst (λ (l : List Item). IsTrue (have_room n l)) (drop_item ps i p h) room

pub room_here : (ps : List ClassFileItem) (i n : ℕ) (p : ClassFileItem) → i < length ps → IsTrue (have_room n (map item_of (drop i ps))) → IsTrue (has_room n (item_of (get_or ps i p)))
room_here ps i n p h room = first_true (has_room n (item_of (get_or ps i p))) (have_room (n + most (item_of (get_or ps i p))) (map item_of (drop (i + 1) ps))) (room_at ps i n p h room)

pub room_next : (ps : List ClassFileItem) (i n m : ℕ) (p : ClassFileItem) → i < length ps → m ≤ n + most (item_of (get_or ps i p)) → IsTrue (have_room n (map item_of (drop i ps)))
    → IsTrue (have_room m (map item_of (drop (i + 1) ps)))
room_next ps i n m p h less room =
    have_fewer (n + most (item_of (get_or ps i p))) m (map item_of (drop (i + 1) ps)) less
    (second_true (has_room n (item_of (get_or ps i p))) (have_room (n + most (item_of (get_or ps i p))) (map item_of (drop (i + 1) ps))) (room_at ps i n p h room))

pub few_next : (ps : List ClassFileItem) (i n m all : ℕ) (p : ClassFileItem) → i < length ps → m ≤ n + most (item_of (get_or ps i p)) → n + most_of (map item_of (drop i ps)) ≤ all
    → m + most_of (map item_of (drop (i + 1) ps)) ≤ all
unfolding most_of
few_next ps i n m all p h less few = omega (arith, less, few, ap most_of (drop_item ps i p h))

pub items_next : (ps : List ClassFileItem) (i : ℕ) (p : ClassFileItem) (d next all : Draft) → i < length ps → next ≡ with_item (item_of (get_or ps i p)) d → with_items (map item_of (drop i ps)) d ≡ all
    → with_items (map item_of (drop (i + 1) ps)) next ≡ all
unfolding with_items
items_next ps i p d next all h put so_far =
    ap (λ (x : Draft). with_items (map item_of (drop (i + 1) ps)) x) put ∙ sym (ap (λ (l : List Item). with_items l d) (drop_item ps i p h)) ∙ so_far

pub items_end : (ps : List ClassFileItem) (i : ℕ) (d all : Draft) → length ps ≤ i → with_items (map item_of (drop i ps)) d ≡ all → d ≡ all
unfolding with_items
items_end ps i d all h so_far = sym (ap (λ (l : List ClassFileItem). with_items (map item_of l) d) (drop_all i ps h)) ∙ so_far

-- ---- items that are known

abbrev pub are_short : List Item → Bool
are_short [] = true
are_short (item ∷ items) = is_named_shortly item && are_short items

-- each index may be as great as this
abbrev pub are_below : ℕ → List Item → Bool
are_below g [] = true
are_below g (item ∷ items) = nat_le g (greatest item) && are_below g items

pub room_by : (g n : ℕ) (items : List Item) → IsTrue (are_short items) → IsTrue (are_below g items) → n + most_of items ≤ g → IsTrue (have_room n items)
unfolding have_room most_of
room_by g n [] short below few = refl
room_by g n (item ∷ items) short below few =
    let g_fits = leb-true g (greatest item) (first_true (nat_le g (greatest item)) (are_below g items) below) in
    both (has_room n item) (have_room (n + most item) items)
    (both (is_named_shortly item) (nat_le (n + most item) (greatest item)) (first_true (is_named_shortly item) (are_short items) short) (le-leb (n + most item) (greatest item) (omega (arith, g_fits, few))))
    (room_by g (n + most item) items (second_true (is_named_shortly item) (are_short items) short) (second_true (nat_le g (greatest item)) (are_below g items) below) (omega (arith, few)))

pub short_name : (name : List ℕ) → length name ≤ 0xff → nat_le (length name) 0xffff ≡ true
short_name name h = le-leb (length name) 0xffff (omega (arith, h))

-- ---- lists one behind the other

pub items_append : (a b : List Item) (d : Draft) → with_items (a ++ b) d ≡ with_items b (with_items a d)
unfolding with_items
items_append [] b d = refl
items_append (item ∷ a) b d = items_append a b (with_item item d)

pub items_on : (a b : List Item) (d mid new : Draft) → mid ≡ with_items a d → new ≡ with_items b mid → new ≡ with_items (a ++ b) d
items_on a b d mid new first second = second ∙ ap (λ (x : Draft). with_items b x) first ∙ sym (items_append a b d)

pub then_items : {T E : Type 0} (a b : List Item) (d mid new : Draft) (r : Result T E) → mid ≡ with_items a d → OnOk r (new ≡ with_items b mid) → OnOk r (new ≡ with_items (a ++ b) d)
then_items a b d mid new (Ok x) first second = items_on a b d mid new first second
then_items a b d mid new (Err e) first second = tt

pub then_behind : {T E : Type 0} (a b c : List Item) (d one two new : Draft) (r : Result T E) → one ≡ with_items a d → two ≡ with_items b one → OnOk r (new ≡ with_items c two) → OnOk r (new ≡ with_items (a ++ (b ++ c)) d)
then_behind a b c d one two new (Ok x) first second third = items_on a (b ++ c) d one new first (items_on b c one two new second third)
then_behind a b c d one two new (Err e) first second third = tt
