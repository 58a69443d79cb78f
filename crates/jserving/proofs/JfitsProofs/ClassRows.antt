-- What is kept of the classes, one behind the other.
use Rattle.std.proofs.Common.{◌≡◌, ℕ, zero, suc, ◌+◌, List, [], ◌∷◌, ◌++◌, length, Some, sym, ap, subst, ◌∙◌, arith}
use Rattle.std.specs.Prelude.{slice_get}
use Rattle.std.proofs.lemmas.List.{length-append}
use Rattle.jresolution.specs.declared.jprogram.part.ClassRef.TheVariants as refs
use Rattle.jresolution.specs.jprogram.ProgramClasses.{Program}
use Rattle.jserving.specs.declared.jfits.lines.Line.{Line}
use Rattle.jserving.specs.jfits.SubtypeTables.{AreLinesTo, IsLine}

none_there : {A : Type 0} (j : ℕ) (y : A) → slice_get [] j ≡ Some y → ⊥
none_there j y e = cc

same_item : {A : Type 0} (x y : A) → Some x ≡ Some y → x ≡ y
same_item x y e = cc

-- what holds of each item at its place, and of one more, holds of each behind it
each_more : {A : Type 0} (R : ℕ → A → Type 0) (xs : List A) (x : A) → ((j : ℕ) (y : A) → slice_get xs j ≡ Some y → R j y) → R (length xs) x
    → (j : ℕ) (y : A) → slice_get (xs ++ x ∷ []) j ≡ Some y → R j y
each_more R [] x h r zero y at = subst (R 0) (same_item x y at) r
each_more R [] x h r (suc j) y at = absurd (none_there j y at)
each_more R (z ∷ zs) x h r zero y at = h 0 y at
each_more R (z ∷ zs) x h r (suc j) y at = each_more (λ k. R (suc k)) zs x (λ k w is. h (suc k) w is) r j y at

pub lines_begin : (p : Program) (lines : List Line) → lines ≡ [] → AreLinesTo p lines 0
lines_begin p lines empty = record {
  count = ap length empty;
  each = λ j x at. absurd (none_there j x (ap (λ (zs : List Line). slice_get zs j) (sym empty) ∙ at));
}

pub lines_more : (p : Program) (lines new : List Line) (i : ℕ) (x : Line) → AreLinesTo p lines i → IsLine p (refs.User i) x → new ≡ lines ++ x ∷ [] → AreLinesTo p new (i + 1)
lines_more p lines new i x h is put =
    let R : ℕ → Line → Type 0 = λ j y. IsLine p (refs.User j) y in
    let both = length-append lines (x ∷ []) in
    let size = h.count in
    record {
      count = ap length put ∙ omega (arith, both, size);
      each = subst (λ (zs : List Line). (j : ℕ) (y : Line) → slice_get zs j ≡ Some y → IsLine p (refs.User j) y) (sym put)
          (each_more R lines x h.each (subst (λ (k : ℕ). IsLine p (refs.User k) x) (sym size) is));
    }
