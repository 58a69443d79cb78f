-- Lists of types that grow, what stands in them, and lists item by item.
use Rattle.std.proofs.Common.{◌≡◌, ℕ, zero, suc, ◌+◌, ◌<◌, ◌≤◌, List, [], ◌∷◌, ◌++◌, length, get_or, take, drop, Option, Some, None, sym, ap, subst, ◌∙◌, arith, append_assoc}
use Rattle.std.specs.Prelude.{slice_get}
use Rattle.std.proofs.lemmas.List.{append-nil, drop-append-le, drop_at, length-append, length-drop, take-append-le, take_all, take_more}
use Rattle.jresolution.specs.declared.juses.meaning.Span.{Span}
use Rattle.jresolution.specs.declared.juses.types.TypeRef.{TypeRef}
use Rattle.jresolution.specs.juses.InstructionMeanings.{spanned}
use Rattle.jresolution.specs.juses.PoolTables.{Grows, IsWithin, Pairs}

-- ---- what grows

pub grows_not : {A : Type 0} (xs : List A) → Grows xs xs
grows_not xs = ([], sym (append-nil xs))

pub grows_by : {A : Type 0} (xs ys more : List A) → ys ≡ xs ++ more → Grows xs ys
grows_by xs ys more e = (more, e)

pub grows_on : {A : Type 0} (xs ys zs : List A) → Grows xs ys → Grows ys zs → Grows xs zs
grows_on {A} xs ys zs a b = (a.0 ++ b.0, b.1 ∙ ap (λ (l : List A). l ++ b.0) a.1 ∙ append_assoc xs a.0 b.0)

-- what stood within stands there still
pub spanned_more : (types more : List TypeRef) (s : Span) → IsWithin (length types) s → spanned (types ++ more) s ≡ spanned types s
spanned_more types more s h =
    let first : drop s.first (types ++ more) ≡ drop s.first types ++ more = drop-append-le s.first types more (omega arith) in
    let room : s.count ≤ length (drop s.first types) = omega (arith, length-drop s.first types) in
    ap (take s.count) first ∙ take-append-le s.count (drop s.first types) more room

pub within_more : (types more : List TypeRef) (s : Span) → IsWithin (length types) s → IsWithin (length (types ++ more)) s
within_more types more s h = omega (arith, length-append types more)

-- what was put behind others
pub spanned_put : (old more : List TypeRef) (s : Span) → s.first ≡ length old → s.count ≡ length more → spanned (old ++ more) s ≡ more
spanned_put old more s first count =
    ap (take s.count) (drop_at old more s.first (sym first)) ∙ take_all s.count more (omega arith)

pub within_put : (old more : List TypeRef) (s : Span) → s.first ≡ length old → s.count ≡ length more → IsWithin (length (old ++ more)) s
within_put old more s first count = omega (arith, length-append old more)

-- ---- item by item

pub pairs_push : {A B : Type 0} (r : A → B → Type 0) (xs : List A) (ys : List B) (x : A) (y : B) → Pairs r xs ys → r x y → Pairs r (xs ++ x ∷ []) (ys ++ y ∷ [])
pairs_push r [] [] x y all one = (one, tt)
pairs_push r [] (z ∷ ys) x y all one = absurd all
pairs_push r (w ∷ xs) [] x y all one = absurd all
pairs_push r (w ∷ xs) (z ∷ ys) x y all one = (all.0, pairs_push r xs ys x y all.1 one)

pub pairs_map : {A B : Type 0} (r s : A → B → Type 0) → ((x : A) (y : B) → r x y → s x y) → (xs : List A) (ys : List B) → Pairs r xs ys → Pairs s xs ys
pairs_map r s f [] [] all = tt
pairs_map r s f [] (z ∷ ys) all = absurd all
pairs_map r s f (w ∷ xs) [] all = absurd all
pairs_map r s f (w ∷ xs) (z ∷ ys) all = (f w z all.0, pairs_map r s f xs ys all.1)

-- both are there, or neither
abbrev pub Both : {A B : Type 0} → (A → B → Type 0) → Option A → Option B → Type 0
Both r None None = Unit {0}
Both r (Some x) (Some y) = r x y
Both r o q = ⊥

pub pairs_at : {A B : Type 0} (r : A → B → Type 0) (xs : List A) (ys : List B) (i : ℕ) → Pairs r xs ys → Both r (slice_get xs i) (slice_get ys i)
pairs_at r [] [] i all = tt
pairs_at r [] (z ∷ ys) i all = absurd all
pairs_at r (w ∷ xs) [] i all = absurd all
pairs_at r (w ∷ xs) (z ∷ ys) zero all = all.0
pairs_at r (w ∷ xs) (z ∷ ys) (suc i) all = pairs_at r xs ys i all.1

-- one step of a loop along the first list
pub pairs_step : {A B : Type 0} (r : A → B → Type 0) (xs : List A) (i : ℕ) (x : A) (ys : List B) (y : B) → i < length xs → x ≡ get_or xs i x → Pairs r (take i xs) ys → r x y → Pairs r (take (i + 1) xs) (ys ++ y ∷ [])
pairs_step {A} r xs i x ys y lt is all one =
    let more : take (i + 1) xs ≡ take i xs ++ x ∷ [] = take_more xs i x lt ∙ ap (λ (z : A). take i xs ++ z ∷ []) (sym is) in
    subst (λ (zs : List A). Pairs r zs (ys ++ y ∷ [])) (sym more) (pairs_push r (take i xs) ys x y all one)

pub pairs_end : {A B : Type 0} (r : A → B → Type 0) (xs : List A) (i : ℕ) (ys : List B) → length xs ≤ i → Pairs r (take i xs) ys → Pairs r xs ys
pairs_end {A} r xs i ys le all = subst (λ (zs : List A). Pairs r zs ys) (take_all i xs le) all
