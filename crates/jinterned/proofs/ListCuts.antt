-- What is left of a list.
use Rattle.std.proofs.Common.{◌≡◌, ◌∙◌, ℕ, zero, suc, ◌+◌, ◌≤◌, List, [], ◌∷◌, drop, length, Some, refl, sym, ap, arith}
use Rattle.std.specs.Prelude.{slice_get}

pub cut_at : {T : Type 0} (list : List T) (i : ℕ) (x : T) → Some x ≡ slice_get list i → drop i list ≡ x ∷ drop (i + 1) list
cut_at [] i x is = cc
cut_at (y ∷ list) zero x is = ap (λ (z : _). z ∷ list) (same y x (sym is))
  where
    same : {T : Type 0} (a b : T) → Some a ≡ Some b → a ≡ b
    same a b e = cc
cut_at (y ∷ list) (suc i) x is = cut_at list i x is ∙ ap (λ (n : ℕ). x ∷ drop n (y ∷ list)) (next i)
  where
    next : (i : ℕ) → suc (i + 1) ≡ suc i + 1
    next i = omega arith

pub cut_end : {T : Type 0} (list : List T) (i : ℕ) → length list ≤ i → drop i list ≡ []
cut_end [] zero end = refl
cut_end [] (suc i) end = refl
cut_end (x ∷ list) zero end = absurd (omega (arith, end))
cut_end (x ∷ list) (suc i) end = cut_end list i (omega (arith, end))
