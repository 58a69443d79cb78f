-- What a change at the end of the items is to the lists.
use Rattle.std.proofs.Common.{◌≡◌, ◌∙◌, ℕ, ◌+◌, ◌-◌, ◌<◌, ◌≤◌, List, [], ◌∷◌, ◌++◌, length, take, drop, reverse, Option, Some, None, refl, sym, ap, ap₂, subst, arith}
use Rattle.std.specs.Prelude.{slice_set, unwrap_or, MatchOption, ⊤}
use Rattle.std.specs.Option.{option_to_list}
use Rattle.std.proofs.lemmas.List.{reverse-append, reverse-reverse, length-reverse, length-drop, length-take-le, drop-drop, take-take, drop-take, take-set-le, drop-set-add}
use Rattle.std.proofs.Math.Seq.{take-length, drop-length}
use Rattle.jstacks.specs.ListStacks.{Piled, on_top, with_newest, closed, from_oldest}
use Rattle.jstacks.specs.ListStarts.{lists_of, piled, Falls}
use Rattle.jstacks.proofs.Ends.{cut_back, kept_back, set_back}

abbrev built : {T : Type 0} → List T → List (List T) → Piled T
built newest below = record { newest = newest; below = below }

-- as many items as there are behind the start
many : {T : Type 0} (start : ℕ) (xs : List T) → length (reverse (drop start xs)) ≡ length xs - start
many start xs = length-reverse (drop start xs) ∙ length-drop start xs

pub set_piled : {T : Type 0} (start i : ℕ) (starts : List ℕ) (y : T) (xs : List T) (p : Piled T) → start ≤ length xs → piled start starts xs ≡ p
    → i < length p.newest → piled start starts (slice_set xs (length xs - 1 - i) y) ≡ with_newest (slice_set p.newest i y) p
set_piled start i starts y xs p le is = subst (λ (q : Piled _). i < length q.newest → piled start starts (slice_set xs (length xs - 1 - i) y) ≡ with_newest (slice_set q.newest i y) q) is (λ lt.
    let all = many start xs in
    let behind = length-drop start xs in
    let place : length xs - 1 - i ≡ start + (length (drop start xs) - 1 - i) = omega (arith, all, behind, lt, le) in
    let newest : reverse (drop start (slice_set xs (length xs - 1 - i) y)) ≡ slice_set (reverse (drop start xs)) i y =
    ap (λ k. reverse (drop start (slice_set xs k y))) place
    ∙ ap reverse (drop-set-add start xs (length (drop start xs) - 1 - i) y)
    ∙ set_back i y (drop start xs) (omega (arith, all, behind, lt)) in
    let below : take start (slice_set xs (length xs - 1 - i) y) ≡ take start xs = take-set-le start xs (length xs - 1 - i) y (omega (arith, all, lt, le)) in
    ap₂ built newest (ap (lists_of starts) below))

pub set_at_piled : {T : Type 0} (start i : ℕ) (starts : List ℕ) (y : T) (xs : List T) (p : Piled T) → piled start starts xs ≡ p
    → from_oldest (piled start starts (slice_set xs (start + i) y)) ≡ slice_set (from_oldest p) i y
set_at_piled start i starts y xs p is =
    reverse-reverse (drop start (slice_set xs (start + i) y))
    ∙ drop-set-add start xs i y
    ∙ ap (λ zs. slice_set zs i y) (sym (reverse-reverse (drop start xs)))
    ∙ ap (λ (q : Piled _). slice_set (from_oldest q) i y) is

pub shrunk_piled : {T : Type 0} (start n : ℕ) (starts : List ℕ) (xs : List T) (p : Piled T) → start ≤ length xs → piled start starts xs ≡ p
    → n ≤ length p.newest → piled start starts (take (length xs - n) xs) ≡ with_newest (drop n p.newest) p
shrunk_piled start n starts xs p le is = subst (λ (q : Piled _). n ≤ length q.newest → piled start starts (take (length xs - n) xs) ≡ with_newest (drop n q.newest) q) is (λ few.
    let all = many start xs in
    let behind = length-drop start xs in
    let kept : length xs - n ≡ start + (length (drop start xs) - n) = omega (arith, all, behind, few, le) in
    let newest : reverse (drop start (take (length xs - n) xs)) ≡ drop n (reverse (drop start xs)) =
    ap (λ k. reverse (drop start (take k xs))) kept
    ∙ ap reverse (drop-take start (length (drop start xs) - n) xs)
    ∙ cut_back n (drop start xs) (omega (arith, all, behind, few)) in
    let below : take start (take (length xs - n) xs) ≡ take start xs = take-take start (length xs - n) xs (omega (arith, all, few, le)) in
    ap₂ built newest (ap (lists_of starts) below))

-- the newest items, the oldest of them first
pub top_piled : {T : Type 0} (start n : ℕ) (starts : List ℕ) (xs : List T) (p : Piled T) → start ≤ length xs → piled start starts xs ≡ p
    → n ≤ length p.newest → drop (length xs - n) xs ≡ reverse (take n p.newest)
top_piled start n starts xs p le is = subst (λ (q : Piled _). n ≤ length q.newest → drop (length xs - n) xs ≡ reverse (take n q.newest)) is (λ few.
    let all = many start xs in
    let behind = length-drop start xs in
    let kept : length xs - n ≡ start + (length (drop start xs) - n) = omega (arith, all, behind, few, le) in
    let newest : reverse (drop (length xs - n) xs) ≡ take n (reverse (drop start xs)) =
    ap (λ k. reverse (drop k xs)) kept
    ∙ ap reverse (sym (drop_more start (length (drop start xs) - n) xs))
    ∙ kept_back n (drop start xs) (omega (arith, all, behind, few)) in
    sym (ap reverse (sym newest) ∙ reverse-reverse (drop (length xs - n) xs)))
  where
    drop_more : {T : Type 0} (m n : ℕ) (xs : List T) → drop n (drop m xs) ≡ drop (m + n) xs
    drop_more m n xs = drop-drop n m xs

-- a list that begins behind all items
pub opened : {T : Type 0} (start : ℕ) (starts : List ℕ) (xs : List T) (p : Piled T) → piled start (reverse starts) xs ≡ p
    → piled (length xs) (reverse (starts ++ start ∷ [])) xs ≡ on_top [] p
unfolding lists_of
opened start starts xs p is =
    ap (λ ns. piled (length xs) ns xs) (reverse-append starts (start ∷ []))
    ∙ ap₂ (λ zs ys. built (reverse zs) (lists_of (start ∷ reverse starts) ys)) (drop-length xs) (take-length xs)
    ∙ ap (on_top []) is

pub opened_falls : (start all : ℕ) (starts : List ℕ) → start ≤ all → Falls start (reverse starts) → Falls all (reverse (starts ++ start ∷ []))
unfolding Falls
opened_falls start all starts le falls = rw (reverse-append starts (start ∷ [])) (le, falls)

-- the newest list is taken away: what the last of the starts is then
closed_at : {T : Type 0} (start : ℕ) (starts : List ℕ) (o : Option ℕ) (xs : List T) → Falls start (reverse (starts ++ option_to_list o)) → MatchOption o (length starts ≡ 0) (λ _. ⊤)
    → piled (unwrap_or o 0) (reverse starts) (take start xs) ≡ closed (piled start (reverse (starts ++ option_to_list o)) xs)
unfolding lists_of Falls
closed_at start [] None xs zero none = ap (λ n. built (reverse (take n xs)) []) zero
closed_at start (s ∷ starts) None xs falls none = absurd (omega (arith, none))
closed_at start starts (Some s) xs falls none = sym (ap (λ ns. closed (piled start ns xs)) (reverse-append starts (s ∷ [])))

pub closed_piled : {T : Type 0} (start : ℕ) (old starts : List ℕ) (o : Option ℕ) (xs : List T) (p : Piled T) → Falls start (reverse old) → old ≡ starts ++ option_to_list o
    → MatchOption o (length starts ≡ 0) (λ _. ⊤) → piled start (reverse old) xs ≡ p → piled (unwrap_or o 0) (reverse starts) (take start xs) ≡ closed p
closed_piled start old starts o xs p falls e none is =
    closed_at start starts o xs (subst (λ ns. Falls start (reverse ns)) e falls) none
    ∙ ap (λ ns. closed (piled start (reverse ns) xs)) (sym e)
    ∙ ap closed is

falls_at : (start : ℕ) (starts : List ℕ) (o : Option ℕ) → Falls start (reverse (starts ++ option_to_list o)) → MatchOption o (length starts ≡ 0) (λ _. ⊤)
    → (unwrap_or o 0 ≤ start) × Falls (unwrap_or o 0) (reverse starts)
unfolding Falls
falls_at start [] None falls none = (omega arith, refl)
falls_at start (s ∷ starts) None falls none = absurd (omega (arith, none))
falls_at start starts (Some s) falls none = subst (λ ns. Falls start ns) (reverse-append starts (s ∷ [])) falls

pub closed_falls : {T : Type 0} (start : ℕ) (old starts : List ℕ) (o : Option ℕ) (xs : List T) → start ≤ length xs → Falls start (reverse old) → old ≡ starts ++ option_to_list o
    → MatchOption o (length starts ≡ 0) (λ _. ⊤) → (unwrap_or o 0 ≤ length (take start xs)) × Falls (unwrap_or o 0) (reverse starts)
closed_falls start old starts o xs le falls e none =
    let both = falls_at start starts o (subst (λ ns. Falls start (reverse ns)) e falls) none in
    let kept = length-take-le start xs le in
    (omega (arith, both.0, kept), both.1)

-- what `pop` says of an empty list
pub none_left : (o : Option ℕ) (starts : List ℕ) (was is : ℕ) (Q : ℕ → Type 0) → is ≡ length starts → MatchOption o ((was ≡ 0) × (is ≡ 0)) Q → MatchOption o (length starts ≡ 0) (λ _. ⊤)
none_left None starts was is Q same both = sym same ∙ both.1
none_left (Some s) starts was is Q same both = tt
