-- Lists that grow item by item, as loops make them.
use Rattle.std.proofs.Common.{◌≡◌, ℕ, zero, suc, ◌+◌, ◌<◌, ◌≤◌, Bool, cond, List, [], ◌∷◌, ◌++◌, length, get_or, take, Option, Some, None, sym, ap, subst, ◌∙◌, arith}
use Rattle.std.specs.Prelude.{slice_get}
use Rattle.std.specs.List.{filter, flat_map}
use Rattle.std.proofs.lemmas.List.{flat_map_more, length-append}
use Rattle.std.proofs.lemmas.List.Filters.{length-filter_more}

-- each item is that of its place
pub pushed : {A : Type 0} (f : ℕ → Option A) (xs : List A) (x : A) → ((j : ℕ) → j < length xs → slice_get xs j ≡ f j) → Some x ≡ f (length xs) → (j : ℕ) → j < length (xs ++ x ∷ []) → slice_get (xs ++ x ∷ []) j ≡ f j
pushed f [] x h e zero lt = e
pushed f [] x h e (suc j) lt = absurd (omega (arith, lt))
pushed f (y ∷ ys) x h e zero lt = h 0 (omega arith)
pushed f (y ∷ ys) x h e (suc j) lt = pushed (λ (k : ℕ). f (suc k)) ys x (λ k less. h (suc k) (omega (arith, less))) e j (omega (arith, lt))

-- something holds of each item at its place
pub pushed_all : {A : Type 0} (R : ℕ → A → Type 0) (xs : List A) (x : A) → ((j : ℕ) (y : A) → slice_get xs j ≡ Some y → R j y) → R (length xs) x → (j : ℕ) (y : A) → slice_get (xs ++ x ∷ []) j ≡ Some y → R j y
pushed_all R [] x h r zero y e = let same : x ≡ y = cc in subst (λ (z : _). R 0 z) same r
pushed_all R [] x h r (suc j) y e = absurd cc
pushed_all R (z ∷ zs) x h r zero y e = h 0 y e
pushed_all R (z ∷ zs) x h r (suc j) y e = pushed_all (λ k. R (suc k)) zs x (λ k y at. h (suc k) y at) r j y e

pub push_length : {A : Type 0} (xs : List A) (x : A) (i : ℕ) → length xs ≡ i → length (xs ++ x ∷ []) ≡ i + 1
push_length xs x i e = let both = length-append xs (x ∷ []) in omega (arith, both, e)

pub get_none : {A : Type 0} (xs : List A) (i : ℕ) → slice_get xs i ≡ None → length xs ≤ i
get_none [] i e = omega arith
get_none (x ∷ xs) zero e = absurd cc
get_none (x ∷ xs) (suc i) e = let le = get_none xs i e in omega (arith, le)

take_next : {A : Type 0} (xs : List A) (i : ℕ) (x : A) → slice_get xs i ≡ Some x → take (suc i) xs ≡ take i xs ++ x ∷ []
take_next [] i x e = absurd cc
take_next (y ∷ ys) zero x e = let same : y ≡ x = cc in ap (λ z. z ∷ []) same
take_next (y ∷ ys) (suc i) x e = ap (λ zs. y ∷ zs) (take_next ys i x e)

-- pieces one behind the other
pub pieces_more : {A B : Type 0} (f : A → List B) (xs : List A) (i : ℕ) (x : A) → slice_get xs i ≡ Some x → length (flat_map f (take (i + 1) xs)) ≡ length (flat_map f (take i xs)) + length (f x)
pieces_more f xs i x e =
    let next : i + 1 ≡ suc i = omega arith in
    ap (λ (k : ℕ). length (flat_map f (take k xs))) next
    ∙ ap (λ ys. length (flat_map f ys)) (take_next xs i x e)
    ∙ ap (λ ys. length ys) (sym (flat_map_more f [] (take i xs) x))
    ∙ length-append (flat_map f (take i xs)) (f x)

-- ---- how many items pass a test

pub filter_next : {A : Type 0} (q : A → Bool) (xs : List A) (i n : ℕ) (x : A) → i < length xs → x ≡ get_or xs i x → n ≡ length (filter q (take i xs)) → n + cond (q x) 1 0 ≡ length (filter q (take (i + 1) xs))
filter_next q xs i n x lt is e =
    ap (λ (k : ℕ). k + cond (q x) 1 0) e
    ∙ ap (λ y. length (filter q (take i xs)) + cond (q y) 1 0) is
    ∙ sym (length-filter_more q xs i x lt)
