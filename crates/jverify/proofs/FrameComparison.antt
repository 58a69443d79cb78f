-- One frame against another: place by place, from the last one on or from the first.
use Rattle.std.proofs.Common.{◌≡◌, ℕ, zero, suc, ◌-◌, ◌≤◌, Bool, true, false, ◌&&◌, List, [], ◌∷◌, ◌++◌, length, replicate, reverse, take, Some, refl, sym, ap, ◌∙◌, arith}
use Rattle.std.specs.Prelude.{slice_get}
use Rattle.std.proofs.lemmas.Grind.{flat_map-append}
use Rattle.std.proofs.lemmas.List.{append-nil, reverse-append}
use Rattle.jtypes.specs.declared.vtype.VType.{VType}
use Rattle.jtypes.specs.declared.vtype.VType.TheVariants as types
use Rattle.jtypes.specs.TypeFrames.{all_fit, places, places_of}
use Rattle.jtyping.specs.jwelltyped.DeclaredFrames.{filled}
use Rattle.jverify.proofs.NumberedTypes.{and_true}

and_false : (a : Bool) → (a && false) ≡ false
and_false true = refl
and_false false = refl

and_assoc : (a b c : Bool) → ((a && b) && c) ≡ (a && (b && c))
and_assoc true b c = refl
and_assoc false b c = refl

-- ---- from the other end

last_fit : (f : VType → VType → Bool) (xs ys : List VType) (x y : VType) → all_fit f (xs ++ x ∷ []) (ys ++ y ∷ []) ≡ (all_fit f xs ys && f x y)
unfolding all_fit
last_fit f [] [] x y = and_true (f x y)
last_fit f [] (b ∷ []) x y = and_false (f x b)
last_fit f [] (b ∷ c ∷ ys) x y = and_false (f x b)
last_fit f (a ∷ []) [] x y = and_false (f a y)
last_fit f (a ∷ c ∷ xs) [] x y = and_false (f a y)
last_fit f (a ∷ xs) (b ∷ ys) x y = ap (λ t. f a b && t) (last_fit f xs ys x y) ∙ sym (and_assoc (f a b) (all_fit f xs ys) (f x y))

nothing_fits : (f : VType → VType → Bool) (ys : List VType) (y : VType) → all_fit f [] (ys ++ y ∷ []) ≡ false
unfolding all_fit
nothing_fits f [] y = refl
nothing_fits f (b ∷ ys) y = refl

fits_nothing : (f : VType → VType → Bool) (xs : List VType) (x : VType) → all_fit f (xs ++ x ∷ []) [] ≡ false
unfolding all_fit
fits_nothing f [] x = refl
fits_nothing f (a ∷ xs) x = refl

pub reversed_fit : (f : VType → VType → Bool) (xs ys : List VType) → all_fit f (reverse xs) (reverse ys) ≡ all_fit f xs ys
unfolding all_fit
reversed_fit f [] [] = refl
reversed_fit f [] (y ∷ ys) = ap (all_fit f []) (reverse-append (y ∷ []) ys) ∙ nothing_fits f (reverse ys) y
reversed_fit f (x ∷ xs) [] = ap (λ zs. all_fit f zs []) (reverse-append (x ∷ []) xs) ∙ fits_nothing f (reverse xs) x
reversed_fit f (x ∷ xs) (y ∷ ys) =
    ap (λ zs. all_fit f zs (reverse (y ∷ ys))) (reverse-append (x ∷ []) xs) ∙ ap (all_fit f (reverse xs ++ x ∷ [])) (reverse-append (y ∷ []) ys)
    ∙ last_fit f (reverse xs) (reverse ys) x y ∙ ap (λ t. t && f x y) (reversed_fit f xs ys) ∙ turned (all_fit f xs ys) (f x y)
  where
    turned : (a b : Bool) → (a && b) ≡ (b && a)
    turned true true = refl
    turned true false = refl
    turned false true = refl
    turned false false = refl

-- ---- locals

tops_fit : (f : VType → VType → Bool) → ((a : VType) → f a types.Top ≡ true) → (xs : List VType) (n : ℕ) → length xs ≡ n → all_fit f xs (replicate n types.Top) ≡ true
unfolding all_fit
tops_fit f top [] zero e = refl
tops_fit f top [] (suc n) e = absurd (omega arith)
tops_fit f top (x ∷ xs) zero e = absurd (omega arith)
tops_fit f top (x ∷ xs) (suc n) e = ap (λ b. b && all_fit f xs (replicate n types.Top)) (top x) ∙ tops_fit f top xs n (omega arith)

-- any locals fit Top behind those that are filled
pub front_fits : (f : VType → VType → Bool) → ((a : VType) → f a types.Top ≡ true) → (most : ℕ) (xs ys : List VType) → length xs ≡ most → length ys ≤ most →
    all_fit f xs (filled most ys) ≡ all_fit f (take (length ys) xs) ys
unfolding all_fit
front_fits f top most xs [] e le = tops_fit f top xs (most - 0) (omega arith)
front_fits f top most [] (y ∷ ys) e le = absurd (omega arith)
front_fits f top most (x ∷ xs) (y ∷ ys) e le =
    let fewer : most - suc (length ys) ≡ length xs - length ys = omega arith in
    ap (λ n. f x y && all_fit f xs (ys ++ replicate n types.Top)) fewer
    ∙ ap (λ t. f x y && t) (front_fits f top (length xs) xs ys refl (omega arith))

-- the last value of some
one_fits : (f : VType → VType → Bool) → ((a : VType) → f a types.Top ≡ true) → (xs : List VType) (a x : VType) → slice_get xs 0 ≡ Some x → length (places a) ≤ length xs →
    all_fit f (take (length (places a)) xs) (places a) ≡ f x a
unfolding all_fit
one_fits f top [] a x at le = absurd cc
one_fits f top (y ∷ xs) a x at le = each a le
  where
    same : y ≡ x
    same = cc

    alone : (b : VType) → (f y b && true) ≡ f x b
    alone b = and_true (f y b) ∙ ap (λ z. f z b) same

    each : (a : VType) → length (places a) ≤ suc (length xs) → all_fit f (take (length (places a)) (y ∷ xs)) (places a) ≡ f x a
    each types.Top le = alone types.Top
    each types.Int le = alone types.Int
    each types.Long le = two xs le
      where
        two : (xs : List VType) → 2 ≤ suc (length xs) → all_fit f (take 2 (y ∷ xs)) (types.Long ∷ types.Top ∷ []) ≡ f x types.Long
        two [] le = absurd (omega arith)
        two (z ∷ zs) le = ap (λ b. f y types.Long && (b && true)) (top z) ∙ alone types.Long
    each types.Null le = alone types.Null
    each types.UninitThis le = alone types.UninitThis
    each (types.Uninit o) le = alone (types.Uninit o)
    each (types.Object c) le = alone (types.Object c)
    each (types.Array b) le = alone (types.Array b)
    each types.Ctx le = alone types.Ctx

more_fit : (f : VType → VType → Bool) → ((a : VType) → f a types.Top ≡ true) → (xs ys : List VType) (a x : VType) → slice_get xs (length ys) ≡ Some x → length (ys ++ places a) ≤ length xs →
    all_fit f (take (length (ys ++ places a)) xs) (ys ++ places a) ≡ (all_fit f (take (length ys) xs) ys && f x a)
unfolding all_fit
more_fit f top xs [] a x at le = one_fits f top xs a x at le
more_fit f top [] (y ∷ ys) a x at le = absurd cc
more_fit f top (z ∷ xs) (y ∷ ys) a x at le =
    ap (λ t. f z y && t) (more_fit f top xs ys a x at (omega arith)) ∙ sym (and_assoc (f z y) (all_fit f (take (length ys) xs) ys) (f x a))

pub values_fit : (f : VType → VType → Bool) → ((a : VType) → f a types.Top ≡ true) → (xs vs : List VType) (a x : VType) → slice_get xs (length (places_of vs)) ≡ Some x → length (places_of (vs ++ a ∷ [])) ≤ length xs →
    all_fit f (take (length (places_of (vs ++ a ∷ []))) xs) (places_of (vs ++ a ∷ [])) ≡ (all_fit f (take (length (places_of vs)) xs) (places_of vs) && f x a)
values_fit f top xs vs a x at le =
    let parts : places_of (vs ++ a ∷ []) ≡ places_of vs ++ places a = flat_map-append places vs (a ∷ []) ∙ ap (λ ys. places_of vs ++ ys) (append-nil (places a)) in
    let room : length (places_of vs ++ places a) ≤ length xs = omega (arith, ap length parts) in
    ap (λ ys. all_fit f (take (length ys) xs) ys) parts ∙ more_fit f top xs (places_of vs) a x at room
