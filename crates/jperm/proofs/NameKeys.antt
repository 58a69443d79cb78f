-- The key of a name that covers another is among the keys at which the other is looked for.
use Rattle.std.proofs.Common.{◌≡◌, ℕ, ◌+◌, ◌-◌, ◌==◌, Bool, true, false, ◌&&◌, ◌||◌, if◌then◌else◌, List, [], ◌∷◌, ◌++◌, length, take, drop, fold, nat_eq, codes, refl, sym, ap, subst, ◌∙◌, arith, eq-eqb, append_assoc, length-append}
use Rattle.std.specs.List.{starts_with, ends_with}
use Rattle.std.specs.Str.{bytes_eq}
use Rattle.std.proofs.lemmas.List.{take-append-drop}
use Rattle.jperm.specs.PermissionChains.{has_place}
use Rattle.jperm.specs.PermissionKeys.{dot, keys_from, named_key, named_keys, stepped, text_key}
use Rattle.jperm.specs.NameCoverage.{but_last, goes_on, is_wildcard, name_covers}
use Rattle.jperm.proofs.Cover.{either, or_left, or_right}
use Rattle.jperm.proofs.PermissionEquality.{and_left, and_right, same_texts}

-- ---- the loop along a name

by_test : {F : Type 0} (look : F → ℕ → F) (found : F) (key : ℕ) (keys : List ℕ) (b : Bool) → fold look (if b then look found key else found) keys ≡ fold look found (if b then key ∷ keys else keys)
by_test look found key keys true = refl
by_test look found key keys false = refl

pub keys_next : {F : Type 0} (look : F → ℕ → F) (found : F) (key u : ℕ) (us : List ℕ)
    → fold look (if nat_eq u dot then look found (stepped key u) else found) (keys_from (stepped key u) us) ≡ fold look found (keys_from key (u ∷ us))
unfolding keys_from
keys_next look found key u us = by_test look found (stepped key u) (keys_from (stepped key u) us) (nat_eq u dot)

-- ---- keys that are among them

here : (key : ℕ) (keys : List ℕ) → has_place (key ∷ keys) key ≡ true
here key keys = or_left (key == key) (has_place keys key) (eq-eqb key key refl)

behind : (first key : ℕ) (keys : List ℕ) → has_place keys key ≡ true → has_place (first ∷ keys) key ≡ true
behind first key keys h = or_right (first == key) (has_place keys key) h

behind_if : (b : Bool) (first key : ℕ) (keys : List ℕ) → has_place keys key ≡ true → has_place (if b then first ∷ keys else keys) key ≡ true
behind_if true first key keys h = behind first key keys h
behind_if false first key keys h = h

itself : (key : ℕ) (text : List ℕ) → has_place (keys_from key text) (text_key key text) ≡ true
unfolding keys_from
itself key [] = here key []
itself key (u ∷ us) = behind_if (nat_eq u dot) (stepped key u) (text_key (stepped key u) us) (keys_from (stepped key u) us) (itself (stepped key u) us)

-- the key of a beginning that ends in a dot
beginning : (key : ℕ) (front rest : List ℕ) → has_place (keys_from key ((front ++ dot ∷ []) ++ rest)) (text_key key (front ++ dot ∷ [])) ≡ true
unfolding keys_from
beginning key [] rest = here (stepped key dot) (keys_from (stepped key dot) rest)
beginning key (u ∷ front) rest =
    behind_if (nat_eq u dot) (stepped key u) (text_key (stepped key u) (front ++ dot ∷ [])) (keys_from (stepped key u) ((front ++ dot ∷ []) ++ rest))
    (beginning (stepped key u) front rest)

-- ---- wildcards

cut_last : (front : List ℕ) (u : ℕ) → take (length front) (front ++ u ∷ []) ≡ front
cut_last [] u = refl
cut_last (x ∷ front) u = ap (λ (t : List ℕ). x ∷ t) (cut_last front u)

but_last-push : (front : List ℕ) (u : ℕ) → but_last (front ++ u ∷ []) ≡ front
but_last-push front u =
    let n : length (front ++ u ∷ []) - 1 ≡ length front = rw length-append (omega arith) in
    ap (λ (k : ℕ). take k (front ++ u ∷ [])) n ∙ cut_last front u

-- what a name that goes on has behind the start
goes : (start asked : List ℕ) → goes_on start asked ≡ true → start ++ drop (length start) asked ≡ asked
goes start asked h =
    let begins : start ≡ take (length start) asked = same_texts start (take (length start) asked) (and_left (starts_with nat_eq asked start) _ h) in
    ap (λ (t : List ℕ). t ++ drop (length start) asked) begins ∙ take-append-drop (length start) asked

-- a name is the front of a wildcard, with a dot, and a star
pub dotted : (name : List ℕ) → ends_with nat_eq name (codes ".*") ≡ true → take (length name - 2) name ++ codes ".*" ≡ name
dotted name h =
    let tail : codes ".*" ≡ drop (length name - 2) name = same_texts (codes ".*") (drop (length name - 2) name) h in
    ap (λ (t : List ℕ). take (length name - 2) name ++ t) tail ∙ take-append-drop (length name - 2) name

-- the key of what stands before the star of a wildcard whose front is this, at a name that it covers
front_found : (kind : ℕ) (front asked rest : List ℕ) → (front ++ dot ∷ []) ++ rest ≡ asked → has_place (named_keys kind asked) (text_key kind (front ++ dot ∷ [])) ≡ true
front_found kind front asked rest is =
    subst (λ (t : List ℕ). has_place (named_keys kind t) (text_key kind (front ++ dot ∷ [])) ≡ true) is
    (behind kind (text_key kind (front ++ dot ∷ [])) (keys_from kind ((front ++ dot ∷ []) ++ rest)) (beginning kind front rest))

-- the rest of what a wildcard covers
rest_of : (front asked : List ℕ) → name_covers ((front ++ dot ∷ []) ++ codes "*") asked ≡ true → (rest : List ℕ) × ((front ++ dot ∷ []) ++ rest ≡ asked)
rest_of front asked h =
    let name : List ℕ = (front ++ dot ∷ []) ++ codes "*" in
    let cut : but_last name ≡ front ++ dot ∷ [] = but_last-push (front ++ dot ∷ []) 42 in
    either (bytes_eq name asked) (is_wildcard name && goes_on (but_last name) asked) h
    (λ e. (codes "*", same_texts name asked e))
    (λ e.
    let on : goes_on (front ++ dot ∷ []) asked ≡ true = subst (λ (t : List ℕ). goes_on t asked ≡ true) cut (and_right (is_wildcard name) (goes_on (but_last name) asked) e) in
    (drop (length (front ++ dot ∷ [])) asked, goes (front ++ dot ∷ []) asked on))

star_found : (kind : ℕ) (front name asked : List ℕ) → front ++ codes ".*" ≡ name → name_covers name asked ≡ true → has_place (named_keys kind asked) (text_key kind (but_last name)) ≡ true
star_found kind front name asked is h =
    let whole : (front ++ dot ∷ []) ++ codes "*" ≡ name = append_assoc front (dot ∷ []) (codes "*") ∙ is in
    let cut : but_last name ≡ front ++ dot ∷ [] = ap but_last (sym whole) ∙ but_last-push (front ++ dot ∷ []) 42 in
    let rest = rest_of front asked (subst (λ (t : List ℕ). name_covers t asked ≡ true) (sym whole) h) in
    subst (λ (t : List ℕ). has_place (named_keys kind asked) (text_key kind t) ≡ true) (sym cut) (front_found kind front asked rest.0 rest.1)

wildcard_found : (kind : ℕ) (name asked : List ℕ) → is_wildcard name ≡ true → name_covers name asked ≡ true → has_place (named_keys kind asked) (text_key kind (but_last name)) ≡ true
wildcard_found kind name asked w h =
    either (bytes_eq name (codes "*")) (ends_with nat_eq name (codes ".*")) w
    (λ e. subst (λ (t : List ℕ). has_place (named_keys kind asked) (text_key kind (but_last t)) ≡ true) (sym (same_texts name (codes "*") e)) (here kind (keys_from kind asked)))
    (λ e. star_found kind (take (length name - 2) name) name asked (dotted name e) h)

other_name : (b : Bool) (name asked : List ℕ) → b ≡ false → (bytes_eq name asked || (b && goes_on (but_last name) asked)) ≡ true → name ≡ asked
other_name true name asked n h = absurd cc
other_name false name asked n h = either (bytes_eq name asked) false h (λ e. same_texts name asked e) (λ e. absurd cc)

by_kind : (b : Bool) (kind : ℕ) (name : List ℕ) (keys : List ℕ) → (b ≡ true → has_place keys (text_key kind (but_last name)) ≡ true) → (b ≡ false → has_place keys (text_key kind name) ≡ true)
    → has_place keys (if b then text_key kind (but_last name) else text_key kind name) ≡ true
by_kind true kind name keys f g = f refl
by_kind false kind name keys f g = g refl

-- the key of a name that covers another is among the other's
pub name_found : (kind : ℕ) (name asked : List ℕ) → name_covers name asked ≡ true → has_place (named_keys kind asked) (named_key kind name) ≡ true
name_found kind name asked h =
    by_kind (is_wildcard name) kind name (named_keys kind asked) (λ w. wildcard_found kind name asked w h)
    (λ n.
    let same : name ≡ asked = other_name (is_wildcard name) name asked n h in
    subst (λ (t : List ℕ). has_place (named_keys kind t) (text_key kind name) ≡ true) same (behind kind (text_key kind name) (keys_from kind name) (itself kind name)))
