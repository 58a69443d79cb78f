-- Where switches go on.
use Rattle.std.proofs.Common.{◌≡◌, ℕ, zero, suc, ℤ, pos, Bool, false, List, [], ◌∷◌, Option, Some, None, refl, sym, ap, ◌∙◌, arith, inl, inr}
use Rattle.std.specs.Prelude.{◌+ℤ◌, ◌<ℤ◌, slice_get, unwrap_or, if◌then◌else◌}
use Rattle.std.specs.Ordering.{int_eq}
use Rattle.std.proofs.lemmas.Bool.{cases_Bool}
use Rattle.std.proofs.lemmas.Bool.Decides.{Decides-int_eq}
use Rattle.std.proofs.lemmas.Int.{ints}
use Rattle.jresolution.specs.juses.InternedInstructions.{keys_from}
use Rattle.jsemantics.specs.jmachine.BasicInstructions.{case_of}

differs : (a t : ℤ) → (a ≡ t → ⊥) → int_eq a t ≡ false
differs a t other = elim (cases_Bool (int_eq a t)) [ inl hit ↦ absurd (other ((Decides-int_eq a t).0 hit)) | inr miss ↦ miss ]

-- ---- keys that rise by one

case_hit : (key low : ℤ) (to other : ℕ) (rest : List (ℤ × ℕ)) → key ≡ low → case_of key ((low, to) ∷ rest) other ≡ to
unfolding case_of
case_hit key low to other rest e = ap (λ (b : Bool). if b then to else case_of key rest other) ((Decides-int_eq low key).1 (sym e))

case_miss : (key low : ℤ) (to other : ℕ) (rest : List (ℤ × ℕ)) → (low ≡ key → ⊥) → case_of key ((low, to) ∷ rest) other ≡ case_of key rest other
unfolding case_of
case_miss key low to other rest h = ap (λ (b : Bool). if b then to else case_of key rest other) (differs low key h)

case_none : (key : ℤ) (other : ℕ) → case_of key [] other ≡ other
unfolding case_of
case_none key other = refl

-- a key that isn't less than the least stands behind it
case_behind : (numbers : List ℕ) (low key : ℤ) (other n : ℕ) → key ≡ low +ℤ pos n
    → unwrap_or (slice_get numbers n) other ≡ case_of key (keys_from low numbers) other
unfolding keys_from
case_behind [] low key other n e = sym (case_none key other)
case_behind (x ∷ xs) low key other zero e = sym (case_hit key low x other (keys_from (low +ℤ pos 1) xs) (omega (arith, ints)))
case_behind (x ∷ xs) low key other (suc m) e = case_behind xs (low +ℤ pos 1) key other m (omega (arith, ints))
    ∙ sym (case_miss key low x other (keys_from (low +ℤ pos 1) xs) (λ same. omega (arith, ints)))

pub case_before : (numbers : List ℕ) (low key : ℤ) (other : ℕ) → key <ℤ low → other ≡ case_of key (keys_from low numbers) other
unfolding keys_from
case_before [] low key other lt = sym (case_none key other)
case_before (x ∷ xs) low key other lt = case_before xs (low +ℤ pos 1) key other (omega (arith, ints))
    ∙ sym (case_miss key low x other (keys_from (low +ℤ pos 1) xs) (λ same. omega (arith, ints)))

-- the target of a key
pub case_at : (numbers : List ℕ) (low key : ℤ) (other n to : ℕ) → key ≡ low +ℤ pos n → Some to ≡ slice_get numbers n
    → to ≡ case_of key (keys_from low numbers) other
case_at numbers low key other n to e is = ap (λ (o : Option ℕ). unwrap_or o other) is ∙ case_behind numbers low key other n e

-- a key behind all
pub case_past : (numbers : List ℕ) (low key : ℤ) (other n : ℕ) → key ≡ low +ℤ pos n → None ≡ slice_get numbers n
    → other ≡ case_of key (keys_from low numbers) other
case_past numbers low key other n e none = ap (λ (o : Option ℕ). unwrap_or o other) none ∙ case_behind numbers low key other n e
