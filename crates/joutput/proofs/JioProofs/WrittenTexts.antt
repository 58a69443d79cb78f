-- A text as it is written, unit by unit.
use Rattle.std.proofs.Common.{◌≡◌, ℕ, ◌+◌, ◌<◌, List, [], ◌∷◌, ◌++◌, length, take, drop, get_or, refl, sym, ap, ◌∙◌, append_assoc, add-one}
use Rattle.std.proofs.lemmas.List.{take-append-drop, append-nil}
use Rattle.std.proofs.Math.Seq.{take-suc}
use Rattle.joutput.specs.jio.TextOutput.{written, written_unit}

pub written_both : (a b : List ℕ) → written (a ++ b) ≡ written a ++ written b
unfolding written
written_both [] b = refl
written_both (unit ∷ units) b = ap (λ (x : List ℕ). written_unit unit ++ x) (written_both units b) ∙ sym (append_assoc (written_unit unit) (written units) (written b))

written_one : (unit : ℕ) → written (unit ∷ []) ≡ written_unit unit
unfolding written
written_one unit = append-nil (written_unit unit)

-- What the first units and one more give.
pub written_more : (units : List ℕ) (i : ℕ) → i < length units → written (take (i + 1) units) ≡ written (take i units) ++ written_unit (get_or units i 0)
written_more units i lt = rw (add-one, take-suc units i 0 lt) (written_both (take i units) (get_or units i 0 ∷ []) ∙ ap (λ (x : List ℕ). written (take i units) ++ x) (written_one (get_or units i 0)))

-- The whole text, around the unit at place i.
pub written_around : (text units more : List ℕ) (i : ℕ) → i < length units → text ++ written (take i units) ++ written_unit (get_or units i 0) ++ (written (drop (i + 1) units) ++ more) ≡ text ++ written units ++ more
written_around text units more i lt =
    let whole : written (take (i + 1) units) ++ written (drop (i + 1) units) ≡ written units = sym (written_both (take (i + 1) units) (drop (i + 1) units)) ∙ ap written (take-append-drop (i + 1) units) in
    let front : text ++ written (take i units) ++ written_unit (get_or units i 0) ≡ text ++ written (take (i + 1) units) = append_assoc text (written (take i units)) (written_unit (get_or units i 0)) ∙ ap (λ (x : List ℕ). text ++ x) (sym (written_more units i lt)) in
    ap (λ (x : List ℕ). x ++ (written (drop (i + 1) units) ++ more)) front ∙ sym (append_assoc (text ++ written (take (i + 1) units)) (written (drop (i + 1) units)) more) ∙ ap (λ (x : List ℕ). x ++ more) (append_assoc text (written (take (i + 1) units)) (written (drop (i + 1) units)) ∙ ap (λ (x : List ℕ). text ++ x) whole)
