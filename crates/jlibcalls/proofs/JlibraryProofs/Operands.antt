-- The operands of calls.
use Rattle.std.proofs.Common.{◌≡◌, ◌≤◌, ℕ, zero, suc, false, List, [], ◌∷◌, length, Some, None, refl, sym, ap, arith}
use Rattle.std.specs.Prelude.{nat_eq, take}
use Rattle.jvalues.specs.declared.jops.value.Value.{Value}
use Rattle.jlibcalls.specs.jlibrary.CallOperands.{one_in, three_in, two_in}

-- ---- other counts

pub one_else : (n : ℕ) (xs : List (Value ℕ)) → n ≤ length xs → nat_eq n 1 ≡ false → None ≡ one_in (take n xs)
one_else zero xs few other = refl
one_else (suc zero) xs few other = cc
one_else (suc (suc n)) [] few other = refl
one_else (suc (suc n)) (x ∷ []) few other = let no : ⊥ = omega (arith, few) in absurd no
one_else (suc (suc n)) (x ∷ y ∷ xs) few other = refl

pub two_else : (n : ℕ) (xs : List (Value ℕ)) → n ≤ length xs → nat_eq n 2 ≡ false → None ≡ two_in (take n xs)
two_else zero xs few other = refl
two_else (suc zero) [] few other = refl
two_else (suc zero) (x ∷ xs) few other = refl
two_else (suc (suc zero)) xs few other = cc
two_else (suc (suc (suc n))) [] few other = refl
two_else (suc (suc (suc n))) (x ∷ []) few other = refl
two_else (suc (suc (suc n))) (x ∷ y ∷ []) few other = let no : ⊥ = omega (arith, few) in absurd no
two_else (suc (suc (suc n))) (x ∷ y ∷ z ∷ xs) few other = refl

pub three_else : (n : ℕ) (xs : List (Value ℕ)) → n ≤ length xs → nat_eq n 3 ≡ false → None ≡ three_in (take n xs)
three_else zero xs few other = refl
three_else (suc zero) [] few other = refl
three_else (suc zero) (x ∷ xs) few other = refl
three_else (suc (suc zero)) [] few other = refl
three_else (suc (suc zero)) (x ∷ []) few other = refl
three_else (suc (suc zero)) (x ∷ y ∷ xs) few other = refl
three_else (suc (suc (suc zero))) xs few other = cc
three_else (suc (suc (suc (suc n)))) [] few other = refl
three_else (suc (suc (suc (suc n)))) (x ∷ []) few other = refl
three_else (suc (suc (suc (suc n)))) (x ∷ y ∷ []) few other = refl
three_else (suc (suc (suc (suc n)))) (x ∷ y ∷ z ∷ []) few other = let no : ⊥ = omega (arith, few) in absurd no
three_else (suc (suc (suc (suc n)))) (x ∷ y ∷ z ∷ w ∷ xs) few other = refl

-- ---- all values

pub one_is : (values : List (Value ℕ)) (v : Value ℕ) → Some v ≡ one_in values → values ≡ v ∷ []
one_is [] v e = cc
one_is (x ∷ []) v e = let same : v ≡ x = cc in rw same refl
one_is (x ∷ y ∷ xs) v e = cc

pub two_is : (values : List (Value ℕ)) (w v : Value ℕ) → Some (w, v) ≡ two_in values → values ≡ w ∷ v ∷ []
two_is [] w v e = cc
two_is (x ∷ []) w v e = cc
two_is (x ∷ y ∷ []) w v e =
    let same : (w, v) ≡ (x, y) = cc in
    ap (λ (p : Value ℕ × Value ℕ). p.0 ∷ p.1 ∷ []) (sym same)
two_is (x ∷ y ∷ z ∷ xs) w v e = cc

-- ---- what holds of other values

module _ (Q : List (Value ℕ) → Type 0) where
  pub but_one : Q [] → ((v w : Value ℕ) (rest : List (Value ℕ)) → Q (v ∷ w ∷ rest)) → (values : List (Value ℕ)) → None ≡ one_in values → Q values
  but_one none more [] e = none
  but_one none more (v ∷ []) e = cc
  but_one none more (v ∷ w ∷ rest) e = more v w rest

  pub but_two : Q [] → ((v : Value ℕ) → Q (v ∷ [])) → ((x w v : Value ℕ) (rest : List (Value ℕ)) → Q (x ∷ w ∷ v ∷ rest)) → (values : List (Value ℕ))
      → None ≡ two_in values → Q values
  but_two none one more [] e = none
  but_two none one more (v ∷ []) e = one v
  but_two none one more (w ∷ v ∷ []) e = cc
  but_two none one more (x ∷ w ∷ v ∷ rest) e = more x w v rest
