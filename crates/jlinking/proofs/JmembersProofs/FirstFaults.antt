-- The first fault along a list, as a loop goes through it.
use Rattle.std.proofs.Common.{◌≡◌, ℕ, ◌+◌, ◌≤◌, ◌<◌, List, length, get_or, drop, Option, Some, None, sym, ap, ◌∙◌}
use Rattle.std.proofs.lemmas.List.{drop_all, drop_more}
use Rattle.jground.specs.jbase.FirstFaults.{first_along, or_else}

here : {A F : Type 0} (test : ℕ → A → Option F) (xs : List A) (k : ℕ) (x : A) (o : Option F) → k < length xs → x ≡ get_or xs k x → o ≡ test k x → first_along test k (drop k xs) ≡ or_else o (first_along test (k + 1) (drop (k + 1) xs))
unfolding first_along
here test xs k x o lt is found =
    ap (first_along test k) (drop_more xs k x lt) ∙ ap (λ y. or_else (test k y) (first_along test (k + 1) (drop (k + 1) xs))) (sym is) ∙ ap (λ a. or_else a (first_along test (k + 1) (drop (k + 1) xs))) (sym found)

pub step_none : {A F : Type 0} (test : ℕ → A → Option F) (xs : List A) (k : ℕ) (x : A) (all : Option F) → k < length xs → x ≡ get_or xs k x → None ≡ test k x → first_along test k (drop k xs) ≡ all → first_along test (k + 1) (drop (k + 1) xs) ≡ all
step_none test xs k x all lt is found so = sym (here test xs k x None lt is found) ∙ so

pub step_some : {A F : Type 0} (test : ℕ → A → Option F) (xs : List A) (k : ℕ) (x : A) (fault : F) (all : Option F) → k < length xs → x ≡ get_or xs k x → Some fault ≡ test k x → first_along test k (drop k xs) ≡ all → Some fault ≡ all
step_some test xs k x fault all lt is found so = sym (here test xs k x (Some fault) lt is found) ∙ so

pub step_end : {A F : Type 0} (test : ℕ → A → Option F) (xs : List A) (k : ℕ) (all : Option F) → length xs ≤ k → first_along test k (drop k xs) ≡ all → None ≡ all
unfolding first_along
step_end test xs k all le so = sym (ap (first_along test k) (drop_all k xs le)) ∙ so
