-- A text as it is written, unit by unit.
use Rattle.std.proofs.Common.{◌≡◌, ℕ, ◌+◌, ◌<◌, List, [], ◌∷◌, ◌++◌, length, take, get_or, refl, sym, ap, ◌∙◌, append_assoc}
use Rattle.std.proofs.lemmas.List.{append-nil, take_more}
use Rattle.joutput.specs.jio.TextOutput.{written, written_unit}

written_both : (a b : List ℕ) → written (a ++ b) ≡ written a ++ written b
unfolding written
written_both [] b = refl
written_both (unit ∷ units) b = ap (λ (x : List ℕ). written_unit unit ++ x) (written_both units b) ∙ sym (append_assoc (written_unit unit) (written units) (written b))

written_one : (unit : ℕ) → written (unit ∷ []) ≡ written_unit unit
unfolding written
written_one unit = append-nil (written_unit unit)

pub written_none : (text : List ℕ) → text ≡ text ++ written []
unfolding written
written_none text = sym (append-nil text)

-- the first units, and one more
pub written_more : (before between now units : List ℕ) (i : ℕ) → i < length units → between ≡ before ++ written (take i units) → now ≡ between ++ written_unit (get_or units i 0) → now ≡ before ++ written (take (i + 1) units)
written_more before between now units i lt so_far next =
    let one : written (take (i + 1) units) ≡ written (take i units) ++ written_unit (get_or units i 0) =
    ap written (take_more units i 0 lt) ∙ written_both (take i units) (get_or units i 0 ∷ []) ∙ ap (λ (x : List ℕ). written (take i units) ++ x) (written_one (get_or units i 0)) in
    next ∙ ap (λ (x : List ℕ). x ++ written_unit (get_or units i 0)) so_far ∙ append_assoc before (written (take i units)) (written_unit (get_or units i 0)) ∙ sym (ap (λ (x : List ℕ). before ++ x) one)

-- ---- five pieces

regroup : (o a b c d e : List ℕ) → ((((o ++ a) ++ b) ++ c) ++ d) ++ e ≡ o ++ (a ++ (b ++ (c ++ (d ++ e))))
regroup o a b c d e = simp append_assoc

pub five : (o p q r s t a b c d e : List ℕ) → p ≡ o ++ a → q ≡ p ++ b → r ≡ q ++ c → s ≡ r ++ d → t ≡ s ++ e → t ≡ o ++ (a ++ (b ++ (c ++ (d ++ e))))
five o p q r s t a b c d e first second third fourth fifth =
    fifth ∙ ap (λ (x : List ℕ). x ++ e) (fourth ∙ ap (λ (x : List ℕ). x ++ d) (third ∙ ap (λ (x : List ℕ). x ++ c) (second ∙ ap (λ (x : List ℕ). x ++ b) first))) ∙ regroup o a b c d e
