-- Lists that grow item by item, as loops make them.
use Rattle.std.proofs.Common.{◌≡◌, ℕ, zero, suc, ◌+◌, ◌<◌, List, [], ◌∷◌, ◌++◌, length, get_or, take, Some, refl, sym, ap, subst, ◌∙◌, arith}
use Rattle.std.specs.Prelude.{slice_get}
use Rattle.std.proofs.lemmas.List.{take_more}
use Rattle.jresolution.proofs.JlayoutProofs.Lists.{pushed_all}

-- something holds of each item at its place
pub each_more : {A : Type 0} (R : ℕ → A → Type 0) (xs ys : List A) (x : A) (i : ℕ) → length xs ≡ i → ((j : ℕ) (y : A) → slice_get xs j ≡ Some y → R j y) → R i x
    → ys ≡ xs ++ x ∷ [] → (j : ℕ) (y : A) → slice_get ys j ≡ Some y → R j y
each_more {A} R xs ys x i len h r put =
    subst (λ (zs : List A). (j : ℕ) (y : A) → slice_get zs j ≡ Some y → R j y) (sym put)
    (pushed_all R xs x h (subst (λ (k : ℕ). R k x) (sym len) r))

none_there : {A : Type 0} (j : ℕ) (y : A) → slice_get [] j ≡ Some y → ⊥
none_there j y e = cc

pub each_none : {A : Type 0} (R : ℕ → A → Type 0) (xs : List A) → xs ≡ [] → (j : ℕ) (y : A) → slice_get xs j ≡ Some y → R j y
each_none {A} R xs empty j y at = absurd (none_there j y (ap (λ (zs : List A). slice_get zs j) (sym empty) ∙ at))

-- an item is there
pub item_there : {A : Type 0} (xs : List A) (i : ℕ) → i < length xs → (x : A) × (slice_get xs i ≡ Some x)
item_there [] i lt = absurd (omega arith)
item_there (x ∷ xs) zero lt = (x, refl)
item_there (x ∷ xs) (suc i) lt = item_there xs i (omega arith)

pub take_next : {A : Type 0} (xs : List A) (i : ℕ) (x : A) → i < length xs → x ≡ get_or xs i x → take (i + 1) xs ≡ take i xs ++ x ∷ []
take_next {A} xs i x lt is = take_more xs i x lt ∙ ap (λ (z : A). take i xs ++ z ∷ []) (sym is)
