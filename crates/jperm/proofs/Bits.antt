-- Sets of actions, as the bits of a number.
use Rattle.std.proofs.Common.{◌≡◌, ℕ, ◌≤◌, min, true, sym, ap, ◌∙◌, arith, bit_and, bit_or, eqb-true, eq-eqb}
use Rattle.std.specs.Int.{bit_at}
use Rattle.std.proofs.lemmas.Nat.Bits.{same_from_bits, bit_at_and, bit_at_or, bit_at-zero}
use Rattle.jperm.specs.Actions.{has_all}

pub or_assoc : (a b c : ℕ) → bit_or (bit_or a b) c ≡ bit_or a (bit_or b c)
or_assoc a b c = same_from_bits (bit_or (bit_or a b) c) (bit_or a (bit_or b c)) (λ i. simp bit_at_or (omega arith))

pub or-zero : (a : ℕ) → bit_or a 0 ≡ a
or-zero a = same_from_bits (bit_or a 0) a (λ i. simp (bit_at_or, bit_at-zero) (omega arith))

pub zero-or : (a : ℕ) → bit_or 0 a ≡ a
zero-or a = same_from_bits (bit_or 0 a) a (λ i. simp (bit_at_or, bit_at-zero) (omega arith))

pub zero-and : (a : ℕ) → bit_and 0 a ≡ 0
zero-and a = same_from_bits (bit_and 0 a) 0 (λ i. simp (bit_at_and, bit_at-zero) (omega arith))

-- to have all of some actions is to have each
has_all-bit : (a w : ℕ) → has_all a w ≡ true → (i : ℕ) → bit_at w i ≤ bit_at a i
has_all-bit a w h i = let e : min (bit_at a i) (bit_at w i) ≡ bit_at w i = sym (bit_at_and a w i) ∙ ap (λ n. bit_at n i) (eqb-true (bit_and a w) w h) in omega arith

bit-has_all : (a w : ℕ) → ((i : ℕ) → bit_at w i ≤ bit_at a i) → has_all a w ≡ true
bit-has_all a w h = eq-eqb (bit_and a w) w (same_from_bits (bit_and a w) w (λ i. let below : bit_at w i ≤ bit_at a i = h i in simp bit_at_and (omega arith)))

pub has_all-itself : (a : ℕ) → has_all a a ≡ true
has_all-itself a = bit-has_all a a (λ i. omega arith)

pub has_all-none : (a : ℕ) → has_all a 0 ≡ true
has_all-none a = bit-has_all a 0 (λ i. simp bit_at-zero (omega arith))

pub has_all-trans : (a b w : ℕ) → has_all a b ≡ true → has_all b w ≡ true → has_all a w ≡ true
has_all-trans a b w h k =
    bit-has_all a w (λ i. let first : bit_at b i ≤ bit_at a i = has_all-bit a b h i in let second : bit_at w i ≤ bit_at b i = has_all-bit b w k i in omega arith)

pub has_all-left : (a b : ℕ) → has_all (bit_or a b) a ≡ true
has_all-left a b = bit-has_all (bit_or a b) a (λ i. simp bit_at_or (omega arith))

pub has_all-right : (a b : ℕ) → has_all (bit_or a b) b ≡ true
has_all-right a b = bit-has_all (bit_or a b) b (λ i. simp bit_at_or (omega arith))

pub has_all-both : (n a b : ℕ) → has_all n a ≡ true → has_all n b ≡ true → has_all n (bit_or a b) ≡ true
has_all-both n a b h k =
    bit-has_all n (bit_or a b) (λ i. let first : bit_at a i ≤ bit_at n i = has_all-bit n a h i in let second : bit_at b i ≤ bit_at n i = has_all-bit n b k i in simp bit_at_or (omega arith))
