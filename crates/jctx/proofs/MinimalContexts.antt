-- What keeping leaves: no item covers a later one, and keeping again changes nothing.
use Rattle.std.proofs.Common.{◌≡◌, ℕ, suc, ◌<◌, ◌≤◌, Bool, true, false, ◌&&◌, ◌||◌, ◌==◌, List, [], ◌∷◌, ◌++◌, map, length, refl, sym, ap, ◌∙◌, cond, subst, arith}
use Rattle.std.specs.List.{list_any, All, AllByRecursion, IsDistinct}
use Rattle.std.proofs.lemmas.Map.Steps.{length-le_from_distinct_below}
use Rattle.jctx.specs.declared.item.Item.{Item}
use Rattle.jctx.specs.PrivilegeLimits.{is_within}
use Rattle.jctx.specs.Contexts.{keep_after, keep, along, along_given, limited}
use Rattle.jctx.specs.ProofNames.{given_items}
use Rattle.jctx.specs.ContextItems.{covers, plain}
use Rattle.jctx.specs.ContextGrowth.{hidden}
use Rattle.jdomain.specs.DomainStacks.{Stack, Bottom, Entry, Unmarked, Privileged}
use Rattle.jctx.proofs.Bools.{or_cases, or_left, or_right}

no_left : (a b : Bool) → (a || b) ≡ false → a ≡ false
no_left true b h = h
no_left false b h = refl

no_right : (a b : Bool) → (a || b) ≡ false → b ≡ false
no_right true b h = cc
no_right false b h = h

-- a test that implies one which fails, fails
fails_too : (a b : Bool) → (a ≡ true → b ≡ true) → b ≡ false → a ≡ false
fails_too true b more h = let e = more refl in cc
fails_too false b more h = refl

all_map : {X : Type 0} {A B : X → Type 0} (xs : List X) → ((x : X) → A x → B x) → AllByRecursion A xs → AllByRecursion B xs
all_map [] f h = tt
all_map (x ∷ xs) f h = (f x h.0, all_map xs f h.1)

-- keeping again after fewer items changes nothing
keep_after-again : (fewer earlier c : List Item) → ((i : Item) → hidden fewer i ≡ true → hidden earlier i ≡ true)
    → keep_after fewer (keep_after earlier c) ≡ keep_after earlier c
keep_after-again fewer earlier [] more = refl
keep_after-again fewer earlier (i ∷ c) more =
    go (hidden earlier i) refl
    (keep_after-again fewer (i ∷ earlier) c (λ j h. or_right (covers i j) (hidden earlier j) (more j h)))
    (keep_after-again (i ∷ fewer) (i ∷ earlier) c (λ j h. or_cases (covers i j) (hidden fewer j) h (λ e. or_left (covers i j) (hidden earlier j) e) (λ e. or_right (covers i j) (hidden earlier j) (more j e))))
  where
    later : List Item
    later = keep_after (i ∷ earlier) c

    go : (b : Bool) → hidden earlier i ≡ b → keep_after fewer later ≡ later → keep_after (i ∷ fewer) later ≡ later
        → keep_after fewer (cond b later (i ∷ later)) ≡ cond b later (i ∷ later)
    go true e skip take' = skip
    go false e skip take' = rw (fails_too (hidden fewer i) (hidden earlier i) (more i) e, take')

-- what is kept is its own `keep`
pub keep-keep : (c : List Item) → keep (keep c) ≡ keep c
keep-keep c = keep_after-again [] [] c (λ i h. h)

-- none of the earlier items covers an item that is kept
kept_uncovered : (earlier c : List Item) → AllByRecursion (λ i. hidden earlier i ≡ false) (keep_after earlier c)
kept_uncovered earlier [] = tt
kept_uncovered earlier (i ∷ c) =
    go (hidden earlier i) refl (all_map (keep_after (i ∷ earlier) c) (λ j h. no_right (covers i j) (hidden earlier j) h) (kept_uncovered (i ∷ earlier) c))
  where
    go : (b : Bool) → hidden earlier i ≡ b → AllByRecursion (λ j. hidden earlier j ≡ false) (keep_after (i ∷ earlier) c)
        → AllByRecursion (λ j. hidden earlier j ≡ false) (cond b (keep_after (i ∷ earlier) c) (i ∷ keep_after (i ∷ earlier) c))
    go true e rest = rest
    go false e rest = (e, rest)

-- no kept item covers a later one
kept_apart : (earlier c : List Item) → IsDistinct covers (keep_after earlier c)
unfolding IsDistinct
kept_apart earlier [] = tt
kept_apart earlier (i ∷ c) =
    go (hidden earlier i) (kept_apart (i ∷ earlier) c)
    (all_map (keep_after (i ∷ earlier) c) (λ j h. no_left (covers i j) (hidden earlier j) h) (kept_uncovered (i ∷ earlier) c))
  where
    later : List Item
    later = keep_after (i ∷ earlier) c

    go : (b : Bool) → IsDistinct covers later → AllByRecursion (λ j. covers i j ≡ false) later → IsDistinct covers (cond b later (i ∷ later))
    go true rest own = rest
    go false rest own = (own, rest)

-- without limits an item covers each of its domain
apart-domains : (i j : Item) → i.limits ≡ [] → covers i j ≡ false → (i.domain == j.domain) ≡ false
apart-domains i j none h =
    let no_limits = ap (λ ls. (i.domain == j.domain) && is_within ls j.limits) none in
    go (i.domain == j.domain) (sym no_limits ∙ h)
  where
    go : (b : Bool) → (b && true) ≡ false → b ≡ false
    go true e = e
    go false e = refl

all_domains : (d : ℕ) (c : List Item) → AllByRecursion (λ j. (d == j.domain) ≡ false) c → AllByRecursion (λ e. (d == e) ≡ false) (map (λ j. j.domain) c)
all_domains d [] h = tt
all_domains d (j ∷ c) h = (h.0, all_domains d c h.1)

distinct_domains : (c : List Item) → All (λ i. i.limits ≡ []) c → IsDistinct covers c → IsDistinct ◌==◌ (map (λ i. i.domain) c)
unfolding IsDistinct
distinct_domains [] none apart = tt
distinct_domains (i ∷ c) none apart = (
  all_domains i.domain c (all_map c (λ j h. apart-domains i j (none 0 i (omega arith)) h) apart.0),
  distinct_domains c (λ k d h. none (suc k) d (omega arith)) apart.1,
)

-- in a context that is its own `keep` and has no limits, all domains differ
pub distinct_domains-keep : (c : List Item) → keep c ≡ c → All (λ i. i.limits ≡ []) c → IsDistinct ◌==◌ (map (λ i. i.domain) c)
distinct_domains-keep c kept none = distinct_domains c none (subst (λ (l : List Item). IsDistinct covers l) kept (kept_apart [] c))

-- so it is no longer than there are domains
pub length-keep : (c : List Item) (n : ℕ) → keep c ≡ c → All (λ i. i.limits ≡ []) c → ((d : ℕ) → list_any (◌==◌ d) (map (λ i. i.domain) c) ≡ true → d < n) → length (map (λ i. i.domain) c) ≤ n
length-keep c n kept none below = length-le_from_distinct_below (map (λ i. i.domain) c) n (distinct_domains-keep c kept none) below

-- what holds of the domain of each item holds of those that are kept
pub all_kept : (Q : ℕ → Type 0) (earlier c : List Item) → AllByRecursion (λ i. Q i.domain) c → AllByRecursion (λ i. Q i.domain) (keep_after earlier c)
all_kept Q earlier [] h = tt
all_kept Q earlier (i ∷ c) h = go (hidden earlier i) (all_kept Q (i ∷ earlier) c h.1)
  where
    go : (b : Bool) → AllByRecursion (λ j. Q j.domain) (keep_after (i ∷ earlier) c) → AllByRecursion (λ j. Q j.domain) (cond b (keep_after (i ∷ earlier) c) (i ∷ keep_after (i ∷ earlier) c))
    go true rest = rest
    go false rest = (h.0, rest)

-- the context of a stack is kept
pub along_kept : (s : Stack) → keep (along s) ≡ along s
along_kept Bottom = refl
along_kept (Entry d Unmarked s) = keep-keep (plain d ∷ along s)
along_kept (Entry d (Privileged given limits) s) = keep-keep (plain d ∷ given_items (along_given given) ++ limited limits (along s))
