-- A list's end, the newest item first.
use Rattle.std.proofs.Common.{◌≡◌, ◌∙◌, ℕ, suc, ◌-◌, ◌<◌, ◌≤◌, List, [], ◌∷◌, ◌++◌, length, take, drop, reverse, sym, ap, ap₂, arith}
use Rattle.std.specs.Prelude.{slice_set}
use Rattle.std.proofs.lemmas.List.{reverse-append, length-reverse, append_assoc, take-append-drop, take_at, drop_at, length-drop, set_split}

split_back : {T : Type 0} (k : ℕ) (xs : List T) → reverse xs ≡ reverse (drop k xs) ++ reverse (take k xs)
split_back k xs = ap reverse (sym (take-append-drop k xs)) ∙ reverse-append (take k xs) (drop k xs)

length_back : {T : Type 0} (n : ℕ) (xs : List T) → n ≤ length xs → length (reverse (drop (length xs - n) xs)) ≡ n
length_back n xs le =
    let back : length xs - (length xs - n) ≡ n = omega arith in
    length-reverse (drop (length xs - n) xs) ∙ length-drop (length xs - n) xs ∙ back

-- what is left of the newest
pub cut_back : {T : Type 0} (n : ℕ) (xs : List T) → n ≤ length xs → reverse (take (length xs - n) xs) ≡ drop n (reverse xs)
cut_back n xs le =
    let k = length xs - n in
    sym (ap (drop n) (split_back k xs) ∙ drop_at (reverse (drop k xs)) (reverse (take k xs)) n (length_back n xs le))

-- the newest
pub kept_back : {T : Type 0} (n : ℕ) (xs : List T) → n ≤ length xs → reverse (drop (length xs - n) xs) ≡ take n (reverse xs)
kept_back n xs le =
    let k = length xs - n in
    sym (ap (take n) (split_back k xs) ∙ take_at (reverse (drop k xs)) (reverse (take k xs)) n (length_back n xs le))

turn : {T : Type 0} (p : List T) (y : T) (q : List T) → reverse (p ++ y ∷ q) ≡ reverse q ++ y ∷ reverse p
turn p y q = reverse-append p (y ∷ q) ∙ ap (λ zs. zs ++ reverse p) (reverse-append (y ∷ []) q) ∙ append_assoc (reverse q) (y ∷ []) (reverse p)

-- a write that counts from the newest
pub set_back : {T : Type 0} (i : ℕ) (y : T) (xs : List T) → i < length xs → reverse (slice_set xs (length xs - 1 - i) y) ≡ slice_set (reverse xs) i y
set_back i y xs lt =
    let k = length xs - 1 - i in
    let here : k ≡ length xs - suc i = omega arith in
    let next : suc k ≡ length xs - i = omega arith in
    let within : k < length xs = omega arith in
    let as_long : i < length (reverse xs) = omega (arith, length-reverse xs) in
    let left : reverse (take k xs) ≡ drop (suc i) (reverse xs) = ap (λ n. reverse (take n xs)) here ∙ cut_back (suc i) xs (omega arith) in
    let right : reverse (drop (suc k) xs) ≡ take i (reverse xs) = ap (λ n. reverse (drop n xs)) next ∙ kept_back i xs (omega arith) in
    ap reverse (set_split xs k y within)
    ∙ turn (take k xs) y (drop (suc k) xs)
    ∙ ap₂ (λ ps qs. ps ++ y ∷ qs) right left
    ∙ sym (set_split (reverse xs) i y as_long)
