-- Verdicts of kept, joined and limited contexts.
use Rattle.std.proofs.Common.{◌≡◌, ℕ, Bool, true, false, not, ◌&&◌, ◌||◌, ◌==◌, List, [], ◌∷◌, ◌++◌, Option, Some, None, refl, sym, ap, ◌∙◌, cond, eqb-true, subst}
use Rattle.std.specs.List.{list_any}
use Rattle.std.proofs.lemmas.List.Folds.{list_any-append}
use Rattle.jdomain.specs.declared.verdict.Verdict.{Verdict}
use Rattle.jdomain.specs.declared.verdict.Verdict.TheVariants.{Granted, Denied}
use Rattle.jdomain.specs.DomainStacks.{first_denial, past_limits, some_implies}
use Rattle.jperm.specs.Permissions.{implies, equal}
use Rattle.jperm.specs.declared.permission.Permission.{Permission}
use Rattle.jctx.proofs.Bools.{EqualIsSame}
use Rattle.jctx.specs.declared.item.Item.{Item}
use Rattle.jctx.specs.PrivilegeLimits.{is_within, add_limits}
use Rattle.jctx.specs.Contexts.{verdict, keep_after, limited}
use Rattle.jctx.specs.ContextItems.{fails, covers}
use Rattle.jctx.proofs.Bools.{or_cases, or_left, or_right, and_left, and_right, or_absorbs, or_zero, or_assoc, or_neither, lacks_less}

-- limits that imply the permission let each item pass, and others change nothing
limit_step : (h a s : Bool) (d : ℕ) (v : Verdict)
    → cond (not h && not (a || s)) (Denied d) (cond s Granted v) ≡ cond s Granted (cond (not h && not a) (Denied d) v)
limit_step true a s d v = refl
limit_step false true true d v = refl
limit_step false true false d v = refl
limit_step false false true d v = refl
limit_step false false false d v = refl

module _ (same : EqualIsSame) (p : Permission) where
  -- what a member implies, a list with an equal member implies
  some_implies-equal : (q : Permission) (rs : List Permission) → implies q p ≡ true → list_any (equal q) rs ≡ true → some_implies rs p ≡ true
  unfolding some_implies
  some_implies-equal q [] q_does found = found
  some_implies-equal q (r ∷ rs) q_does found =
      or_cases (equal q r) (list_any (equal q) rs) found
      (λ e. or_left (implies r p) (some_implies rs p) (subst (λ (x : Permission). implies x p ≡ true) ((same q r).0 e) q_does))
      (λ e. or_right (implies r p) (some_implies rs p) (some_implies-equal q rs q_does e))

  -- what a list implies, one that has all its members implies
  some_implies-within : (bs rs : List Permission) → is_within bs rs ≡ true → some_implies bs p ≡ true → some_implies rs p ≡ true
  unfolding some_implies
  some_implies-within [] rs within b_does = cc
  some_implies-within (b ∷ bs) rs within b_does =
      or_cases (implies b p) (some_implies bs p) b_does
      (λ e. some_implies-equal b rs e (and_left (list_any (equal b) rs) (is_within bs rs) within))
      (λ e. some_implies-within bs rs (and_right (list_any (equal b) rs) (is_within bs rs) within) e)

  -- added limits imply what the old or the new ones do
  some_implies-add_limits : (old new : List Permission) → some_implies (add_limits old new) p ≡ (some_implies old p || some_implies new p)
  unfolding some_implies
  some_implies-add_limits old [] = sym (or_zero (some_implies old p))
  some_implies-add_limits old (l ∷ new) =
      go (list_any (equal l) old) refl (some_implies-add_limits old new) (some_implies-add_limits (old ++ l ∷ []) new)
    where
      a : Bool
      a = some_implies old p

      b : Bool
      b = implies l p

      c : Bool
      c = some_implies new p

      go : (t : Bool) → list_any (equal l) old ≡ t
          → some_implies (add_limits old new) p ≡ (a || c)
          → some_implies (add_limits (old ++ l ∷ []) new) p ≡ (some_implies (old ++ l ∷ []) p || c)
          → some_implies (cond t (add_limits old new) (add_limits (old ++ l ∷ []) new)) p ≡ (a || (b || c))
      go true e there less = there ∙ ap (λ t. t || c) (sym (or_absorbs a b (λ h. some_implies-equal l old h e))) ∙ or_assoc a b c
      go false e less more = more ∙ ap (λ t. t || c) (list_any-append (λ q. implies q p) old (l ∷ []) ∙ ap (λ t. a || t) (or_zero b)) ∙ or_assoc a b c

  module _ (has : ℕ → Permission → Bool) where
    -- what covers a failing item fails
    fails-covers : (e i : Item) → covers e i ≡ true → fails has p i ≡ true → fails has p e ≡ true
    fails-covers e i covered failing =
        rw (ap (λ d. has d p) (eqb-true e.domain i.domain (and_left (e.domain == i.domain) (is_within e.limits i.limits) covered)))
        (lacks_less (has i.domain p) (some_implies e.limits p) (some_implies i.limits p)
        (some_implies-within e.limits i.limits (and_right (e.domain == i.domain) (is_within e.limits i.limits) covered)) failing)

    -- some earlier item fails where one of those covers a failing item
    fails-covered : (i : Item) (earlier : List Item) → list_any (λ e. covers e i) earlier ≡ true → fails has p i ≡ true → list_any (fails has p) earlier ≡ true
    fails-covered i [] covered failing = covered
    fails-covered i (e ∷ earlier) covered failing =
        or_cases (covers e i) (list_any (λ e. covers e i) earlier) covered
        (λ h. or_left (fails has p e) (list_any (fails has p) earlier) (fails-covers e i h failing))
        (λ h. or_right (fails has p e) (list_any (fails has p) earlier) (fails-covered i earlier h failing))

    pub verdict-keep_after : (earlier c : List Item) → list_any (fails has p) earlier ≡ false → verdict has p (keep_after earlier c) ≡ verdict has p c
    verdict-keep_after earlier [] fine = refl
    verdict-keep_after earlier (i ∷ c) fine =
        go (list_any (λ e. covers e i) earlier) refl (fails has p i) refl (verdict-keep_after (i ∷ earlier) c)
      where
        later : List Item
        later = keep_after (i ∷ earlier) c

        go : (b : Bool) → list_any (λ e. covers e i) earlier ≡ b → (f : Bool) → fails has p i ≡ f
            → (list_any (fails has p) (i ∷ earlier) ≡ false → verdict has p later ≡ verdict has p c)
            → verdict has p (cond b later (i ∷ later)) ≡ cond f (Denied i.domain) (verdict has p c)
        go true e true f step = let found = fails-covered i earlier e f in cc
        go true e false f step = step (or_neither (fails has p i) (list_any (fails has p) earlier) f fine)
        go false e true f step = rw f
        go false e false f step = rw f (step (or_neither (fails has p i) (list_any (fails has p) earlier) f fine))

    pub verdict-append : (c d : List Item) → verdict has p (c ++ d) ≡ first_denial (verdict has p c) (verdict has p d)
    verdict-append [] d = refl
    verdict-append (i ∷ c) d = elim (fails has p i) as (λ b. cond b (Denied i.domain) (verdict has p (c ++ d)) ≡ first_denial (cond b (Denied i.domain) (verdict has p c)) (verdict has p d)) [ true ↦ refl | false ↦ verdict-append c d ]

    pub verdict-limited : (new : Option (List Permission)) (c : List Item) → verdict has p (limited new c) ≡ past_limits new p (verdict has p c)
    verdict-limited None c = refl
    verdict-limited (Some new) [] = elim (some_implies new p) as (λ s. Granted ≡ cond s Granted Granted) [ true ↦ refl | false ↦ refl ]
    verdict-limited (Some new) (i ∷ c) =
        rw (some_implies-add_limits i.limits new, verdict-limited (Some new) c)
        (limit_step (has i.domain p) (some_implies i.limits p) (some_implies new p) i.domain (verdict has p c))
