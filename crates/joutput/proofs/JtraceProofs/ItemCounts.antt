-- How many items are in the parts of a list.
use Rattle.std.proofs.Common.{◌≡◌, ℕ, ◌+◌, ◌-◌, ◌≤◌, ◌<◌, List, [], ◌∷◌, ◌++◌, length, get_or, take, drop, false, nat_le, sym, ap, ◌∙◌, add-one, arith}
use Rattle.std.specs.List.{flat_map}
use Rattle.std.proofs.lemmas.Bool.{lt-leb}
use Rattle.std.proofs.Math.Seq.{take-suc}
use Rattle.std.proofs.lemmas.List.{take-append-drop, append-nil, length-append}
use Rattle.std.proofs.lemmas.List.Concat.{flat_map-append}

-- all items of some parts
abbrev pub joined : List (List ℕ) → List ℕ
joined parts = flat_map (λ (part : List ℕ). part) parts

pub joined_more : (parts : List (List ℕ)) (i : ℕ) → i < length parts → joined (take (i + 1) parts) ≡ joined (take i parts) ++ get_or parts i []
joined_more parts i lt =
    rw (add-one, take-suc parts i [] lt) (flat_map-append (λ (part : List ℕ). part) (take i parts) (get_or parts i [] ∷ []) ∙ ap (λ (x : List ℕ). joined (take i parts) ++ x) (append-nil (get_or parts i [])))

pub counted_more : (parts : List (List ℕ)) (i : ℕ) → i < length parts → length (joined (take (i + 1) parts)) ≡ length (joined (take i parts)) + length (get_or parts i [])
counted_more parts i lt = ap length (joined_more parts i lt) ∙ length-append (joined (take i parts)) (get_or parts i [])

pub counted_within : (parts : List (List ℕ)) (i : ℕ) → length (joined (take i parts)) ≤ length (joined parts)
counted_within parts i =
    let whole : joined (take i parts) ++ joined (drop i parts) ≡ joined parts = sym (flat_map-append (λ (part : List ℕ). part) (take i parts) (drop i parts)) ∙ ap joined (take-append-drop i parts) in
    omega (arith, simp length-append at (ap length whole))

-- A part that has more items than are allowed behind the earlier ones makes the whole too long.
pub too_long : (parts : List (List ℕ)) (at count units most : ℕ) (part text : List ℕ) → length parts ≡ count → joined parts ≡ text → at < count → part ≡ get_or parts at [] → units ≡ length (joined (take at parts)) → units ≤ most → most - units < length part → false ≡ nat_le (length text) most
too_long parts at count units most part text n whole lt is so_far few more =
    let next = counted_more parts at (omega arith) in
    let within = counted_within parts (at + 1) in
    let same = ap length whole in
    let long = ap length is in
    sym (lt-leb (length text) most (omega arith))

pub next_count : (parts : List (List ℕ)) (at count units : ℕ) (part : List ℕ) → length parts ≡ count → at < count → part ≡ get_or parts at [] → units ≡ length (joined (take at parts)) → units + length part ≡ length (joined (take (at + 1) parts))
next_count parts at count units part n lt is so_far =
    let next = counted_more parts at (omega arith) in
    let long = ap length is in
    omega arith
