-- What is alike is the same.
use Rattle.std.proofs.Common.{◌≡◌, ◌≢◌, ◌∙◌, ◌↔◌, ℕ, Bool, true, false, ◌&&◌, ◌==◌, List, [], ◌∷◌, length, refl, sym, ap, ap₂, arith, eqb-true, eq-eqb}
use Rattle.jperm.specs.declared.permission.Permission.{Permission}
use Rattle.jperm.specs.Permissions.{equal}
use Rattle.jinterned.specs.declared.pairs.Pair.{Pair}
use Rattle.jinterned.specs.InternedContexts.{pairwise, alike, same_limits, same_pair}

pub and_left : (a b : Bool) → (a && b) ≡ true → a ≡ true
and_left true b h = refl
and_left false b h = h

pub and_right : (a b : Bool) → (a && b) ≡ true → b ≡ true
and_right true b h = h
and_right false b h = cc

and_both : (a b : Bool) → a ≡ true → b ≡ true → (a && b) ≡ true
and_both true b h k = k
and_both false b h k = h

pairwise_same : {T : Type 0} (test : T → T → Bool) → ((x y : T) → test x y ≡ true → x ≡ y) → (xs ys : List T) → length xs ≡ length ys → pairwise test xs ys ≡ true → xs ≡ ys
pairwise_same test exact [] [] long h = refl
pairwise_same test exact [] (y ∷ ys) long h = absurd (omega (arith, long))
pairwise_same test exact (x ∷ xs) [] long h = absurd (omega (arith, long))
pairwise_same test exact (x ∷ xs) (y ∷ ys) long h =
    ap₂ (λ z zs. z ∷ zs) (exact x y (and_left (test x y) (pairwise test xs ys) h))
    (pairwise_same test exact xs ys (omega (arith, long)) (and_right (test x y) (pairwise test xs ys) h))

pairwise_itself : {T : Type 0} (test : T → T → Bool) → ((x : T) → test x x ≡ true) → (xs : List T) → pairwise test xs xs ≡ true
pairwise_itself test itself [] = refl
pairwise_itself test itself (x ∷ xs) = and_both (test x x) (pairwise test xs xs) (itself x) (pairwise_itself test itself xs)

alike_same : {T : Type 0} (test : T → T → Bool) → ((x y : T) → test x y ≡ true → x ≡ y) → (xs ys : List T) → alike test xs ys ≡ true → xs ≡ ys
alike_same test exact xs ys h =
    pairwise_same test exact xs ys (eqb-true (length xs) (length ys) (and_left (length xs == length ys) (pairwise test xs ys) h)) (and_right (length xs == length ys) (pairwise test xs ys) h)

alike_itself : {T : Type 0} (test : T → T → Bool) → ((x : T) → test x x ≡ true) → (xs : List T) → alike test xs xs ≡ true
alike_itself test itself xs = and_both (length xs == length xs) (pairwise test xs xs) (eq-eqb (length xs) (length xs) refl) (pairwise_itself test itself xs)

-- permissions that are equal are the same
abbrev pub EqualIsSame : Type 0
EqualIsSame = (p q : Permission) → (equal p q ≡ true) ↔ (p ≡ q)

pub limits_same : EqualIsSame → (ps qs : List Permission) → same_limits ps qs ≡ true → ps ≡ qs
limits_same same ps qs h = alike_same equal (λ p q. (same p q).0) ps qs h

abbrev pair_of : ℕ → ℕ → Pair
pair_of l d = record { limits = l; domain = d }

pair_same : (p q : Pair) → same_pair p q ≡ true → p ≡ q
pair_same p q h =
    ap₂ pair_of (eqb-true p.limits q.limits (and_left (p.limits == q.limits) (p.domain == q.domain) h))
    (eqb-true p.domain q.domain (and_right (p.limits == q.limits) (p.domain == q.domain) h))

pair_itself : (p : Pair) → same_pair p p ≡ true
pair_itself p = and_both (p.limits == p.limits) (p.domain == p.domain) (eq-eqb p.limits p.limits refl) (eq-eqb p.domain p.domain refl)

pub pairs_same : (ps qs : List Pair) → alike same_pair ps qs ≡ true → ps ≡ qs
pairs_same ps qs h = alike_same same_pair pair_same ps qs h

differ : (t : Bool) → t ≡ false → t ≡ true → ⊥
differ t fails holds = cc

pub limits_differ : EqualIsSame → (ps qs : List Permission) → same_limits ps qs ≡ false → ps ≢ qs
limits_differ same ps qs h is = differ (same_limits ps qs) h (ap (same_limits ps) (sym is) ∙ alike_itself equal (λ p. (same p p).1 refl) ps)

pub pairs_differ : (ps qs : List Pair) → alike same_pair ps qs ≡ false → ps ≢ qs
pairs_differ ps qs h is = differ (alike same_pair ps qs) h (ap (alike same_pair ps) (sym is) ∙ alike_itself same_pair pair_itself ps)
