-- What is left of a number in the bits of a width.
use Rattle.std.proofs.Common.{◌≡◌, ℕ, zero, suc, ◌*◌, ◌/◌, ◌%◌, ◌^◌, ◌<◌, ◌≤◌, ℤ, pos, negsuc, ◌*ℤ◌, neg_ℤ, refl, sym, ap, ◌∙◌, to_z, of_z, arith}
use Rattle.std.proofs.Math.Nat.{le_trans, le_of_lt, lt_of_le_of_lt, div-le_self, mod-eq_of_lt}
use Rattle.std.proofs.lemmas.Int.{to_z-of_z, wrapping_mul-bits, wrapping_neg_is, int_wrap-mul_right, SFits-int_wrap}
use Rattle.std.proofs.lemmas.Nat.{pow_below}
use Rattle.std.specs.Prelude.{FitsSigned, unsigned_abs, int_div}
use Rattle.std.specs.Int.{Width, int_wrap, int_rem_euclid, int_wrapping_neg, int_wrapping_div}
use mir.Val.{bits, hbits}
use lib.Signed.{mag}

-- a wrapped number as a type of its width keeps it
pub kept : (w : Width) (z r : ℤ) → r ≡ int_wrap w z → to_z w (of_z w r) ≡ int_wrap w z
kept w z r e = ap (λ t. to_z w (of_z w t)) e ∙ to_z-of_z w (int_wrap w z) (SFits-int_wrap w z)

-- so does a wider type
pub widened : (w v : Width) (z r : ℤ) → FitsSigned v (int_wrap w z) → r ≡ int_wrap w z → to_z v (of_z v (to_z w (of_z w r))) ≡ int_wrap w z
widened w v z r f e = ap (λ t. to_z v (of_z v t)) (kept w z r e) ∙ to_z-of_z v (int_wrap w z) f

-- the low bits r of a number x, as a narrower type reads its remainder e
pub low_is : (w v : Width) (x e r : ℤ) → FitsSigned v x → FitsSigned v e
    → e ≡ int_rem_euclid (to_z v (of_z v x)) (pos (2 ^ bits w)) → r ≡ to_z w (unsigned_abs (to_z v (of_z v e))) → r ≡ int_wrap w x
unfolding int_wrap
low_is w v x e r f g d h =
    h
    ∙ ap (λ t. to_z w (unsigned_abs t)) (to_z-of_z v e g ∙ d)
    ∙ ap (λ t. to_z w (unsigned_abs (int_rem_euclid t (pos (2 ^ bits w))))) (to_z-of_z v x f)

pub negative_is : (w : Width) (x r : ℤ) → FitsSigned w x → r ≡ int_wrapping_neg w (to_z w (of_z w x)) → to_z w (of_z w r) ≡ int_wrap w (neg_ℤ x)
negative_is w x r f e = kept w (neg_ℤ x) r (e ∙ ap (int_wrapping_neg w) (to_z-of_z w x f) ∙ wrapping_neg_is w x f)

-- a number of few enough bits, read as a type with a sign
pub cast_is : (w : Width) (z : ℤ) → unsigned_abs z < 2 ^ bits w → to_z w (of_z w z) ≡ int_wrap w z
unfolding int_wrap
cast_is w (pos n) h = ap (to_z w) (sym (mod-eq_of_lt h))
cast_is w (negsuc n) h =
    let small : n % 2 ^ bits w ≡ n = mod-eq_of_lt (omega (arith, h)) in
    ap (to_z w) (omega (arith, small))

abs_neg : (n : ℕ) → unsigned_abs (neg_ℤ (pos n)) ≡ n
abs_neg zero = refl
abs_neg (suc n) = refl

le_along : (m n k : ℕ) → m ≡ n → n ≤ k → m ≤ k
le_along m n k e h = omega (arith, e, h)

div_abs : (x y : ℤ) → unsigned_abs (int_div x y) ≤ unsigned_abs x
div_abs (pos a) (pos b) = div-le_self a b
div_abs (pos a) (negsuc b) = le_along _ _ _ (abs_neg (a / suc b)) (div-le_self a (suc b))
div_abs (negsuc a) (pos b) = le_along _ _ _ (abs_neg (suc a / b)) (div-le_self (suc a) b)
div_abs (negsuc a) (negsuc b) = div-le_self (suc a) (suc b)

abs_fits : (x : ℤ) (h : ℕ) → mag x < h → unsigned_abs x ≤ h
abs_fits (pos n) h l = le_of_lt l
abs_fits (negsuc n) h l = l

pub quotient_is : (w : Width) (x y r : ℤ) → 2 ^ hbits w < 2 ^ bits w → FitsSigned w x → FitsSigned w y
    → r ≡ int_wrapping_div w (to_z w (of_z w x)) (to_z w (of_z w y)) → to_z w (of_z w r) ≡ int_wrap w (int_div x y)
quotient_is w x y r half f g e =
    let small : unsigned_abs (int_div x y) < 2 ^ bits w = lt_of_le_of_lt (le_trans (div_abs x y) (abs_fits x (2 ^ hbits w) f.sfits)) half in
    let dividend = ap (λ t. int_wrapping_div w t (to_z w (of_z w y))) (to_z-of_z w x f) in
    let divisor = ap (int_wrapping_div w x) (to_z-of_z w y g) in
    kept w (int_div x y) r (e ∙ dividend ∙ divisor ∙ cast_is w (int_div x y) small)

bits_below : (w : Width) (x : ℤ) → 2 ^ hbits w < 2 ^ bits w → mag x < 2 ^ hbits w → of_z w x < 2 ^ bits w
bits_below w (pos n) half f = omega (arith, half, f)
bits_below w (negsuc n) half f = omega (arith, half, f)

-- a shift to the left multiplies
pub shifted_is : (w : Width) (x : ℤ) (k : ℕ) → 2 ^ hbits w < 2 ^ bits w → FitsSigned w x → k < bits w → to_z w ((of_z w x * 2 ^ k) % 2 ^ bits w) ≡ int_wrap w (x *ℤ pos (2 ^ k))
shifted_is w x k half f h =
    let n = 2 ^ k in
    let small : 2 ^ k < 2 ^ bits w = pow_below k (bits w) h in
    wrapping_mul-bits w (of_z w x) (2 ^ k) (bits_below w x half f.sfits) small
    ∙ ap (λ t. int_wrap w (t *ℤ to_z w (2 ^ k))) (to_z-of_z w x f)
    ∙ ap (λ t. int_wrap w (x *ℤ t)) (cast_is w (pos (2 ^ k)) small)
    ∙ int_wrap-mul_right w x (pos (2 ^ k))
