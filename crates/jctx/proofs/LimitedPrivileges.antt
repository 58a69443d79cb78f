-- What a privilege with limits takes over of a context that was entered is what it takes over of the context before.
use Rattle.std.proofs.Common.{◌≡◌, ℕ, Bool, true, false, ◌&&◌, ◌||◌, ◌==◌, List, [], ◌∷◌, ◌++◌, map, Option, Some, None, refl, sym, ap, ◌∙◌, cond, eq-eqb}
use Rattle.std.specs.List.{list_any}
use Rattle.std.proofs.lemmas.List.Folds.{list_any-append}
use Rattle.std.proofs.lemmas.List.{map-append}
use Rattle.jperm.specs.declared.permission.Permission.{Permission}
use Rattle.jperm.specs.Permissions.{equal}
use Rattle.jctx.proofs.Bools.{EqualIsSame, and_both, and_left, and_right, or_cases, or_left, or_right}
use Rattle.jctx.proofs.Growth.{hidden-covers, joined-append, joined-keep_after}
use Rattle.jctx.specs.declared.item.Item.{Item}
use Rattle.jctx.specs.Contexts.{enter, limited, privileged}
use Rattle.jctx.specs.ProofNames.{given_items}
use Rattle.jctx.specs.ContextGrowth.{added, hidden, joined}
use Rattle.jctx.specs.ContextItems.{covers, plain, with_limits}
use Rattle.jctx.specs.PrivilegeLimits.{add_limits, is_within}

-- ---- limits that are added on both sides

-- one more permission in front or behind takes nothing away
any-more : (p l : Permission) (others : List Permission) → list_any (equal p) others ≡ true → list_any (equal p) (others ++ l ∷ []) ≡ true
any-more p l others found = list_any-append (equal p) others (l ∷ []) ∙ or_left (list_any (equal p) others) (equal p l || false) found

within-more : (members others : List Permission) (l : Permission) → is_within members others ≡ true → is_within members (others ++ l ∷ []) ≡ true
within-more [] others l within = refl
within-more (m ∷ members) others l within =
    and_both (list_any (equal m) (others ++ l ∷ [])) (is_within members (others ++ l ∷ []))
    (any-more m l others (and_left (list_any (equal m) others) (is_within members others) within))
    (within-more members others l (and_right (list_any (equal m) others) (is_within members others) within))

-- one more that is there
within-put : (members others : List Permission) (l : Permission) → is_within members others ≡ true → list_any (equal l) others ≡ true → is_within (members ++ l ∷ []) others ≡ true
within-put [] others l within there = and_both (list_any (equal l) others) true there refl
within-put (m ∷ members) others l within there =
    and_both (list_any (equal m) others) (is_within (members ++ l ∷ []) others)
    (and_left (list_any (equal m) others) (is_within members others) within)
    (within-put members others l (and_right (list_any (equal m) others) (is_within members others) within) there)

module _ (same : EqualIsSame) where
  itself-there : (l : Permission) (others : List Permission) → list_any (equal l) (others ++ l ∷ []) ≡ true
  itself-there l others = list_any-append (equal l) others (l ∷ []) ∙ or_right (list_any (equal l) others) (equal l l || false) (or_left (equal l l) false ((same l l).1 refl))

  within-added : (new a b : List Permission) → is_within a b ≡ true → is_within (add_limits a new) (add_limits b new) ≡ true
  within-added [] a b within = within
  within-added (l ∷ new) a b within = go (within-added new) (list_any (equal l) a) (list_any (equal l) b) refl
    where
      go : ((c d : List Permission) → is_within c d ≡ true → is_within (add_limits c new) (add_limits d new) ≡ true)
          → (t u : Bool) → list_any (equal l) b ≡ u
          → is_within (cond t (add_limits a new) (add_limits (a ++ l ∷ []) new)) (cond u (add_limits b new) (add_limits (b ++ l ∷ []) new)) ≡ true
      go rest true true e = rest a b within
      go rest true false e = rest a (b ++ l ∷ []) (within-more a b l within)
      go rest false true e = rest (a ++ l ∷ []) b (within-put a b l within e)
      go rest false false e = rest (a ++ l ∷ []) (b ++ l ∷ []) (within-put a (b ++ l ∷ []) l (within-more a b l within) (itself-there l b))

  covers-limited : (new : List Permission) (e i : Item) → covers e i ≡ true → covers (with_limits new e) (with_limits new i) ≡ true
  covers-limited new e i covered =
      and_both (e.domain == i.domain) (is_within (add_limits e.limits new) (add_limits i.limits new))
      (and_left (e.domain == i.domain) (is_within e.limits i.limits) covered)
      (within-added new e.limits i.limits (and_right (e.domain == i.domain) (is_within e.limits i.limits) covered))

  -- ---- what grows hides what it hid

  hidden-put : (c : List Item) (x j : Item) → hidden c j ≡ true → hidden (c ++ x ∷ []) j ≡ true
  hidden-put c x j h = list_any-append (λ e. covers e j) c (x ∷ []) ∙ or_left (hidden c j) (covers x j || false) h

  hidden-added : (c : List Item) (x j : Item) → hidden c j ≡ true → hidden (added c x) j ≡ true
  hidden-added c x j h = elim (hidden c x) as (λ b. hidden (cond b c (c ++ x ∷ [])) j ≡ true) [ true ↦ h | false ↦ hidden-put c x j h ]

  hidden-joined : (c items : List Item) (j : Item) → hidden c j ≡ true → hidden (joined c items) j ≡ true
  hidden-joined c [] j h = h
  hidden-joined c (x ∷ items) j h = hidden-joined (added c x) items j (hidden-added c x j h)

  -- an item that was added hides what it covers
  hidden-new : (c : List Item) (x j : Item) → covers x j ≡ true → hidden (added c x) j ≡ true
  hidden-new c x j h = go (hidden c x) refl
    where
      go : (b : Bool) → hidden c x ≡ b → hidden (cond b c (c ++ x ∷ [])) j ≡ true
      go true e = hidden-covers same c x j e h
      go false e = list_any-append (λ e'. covers e' j) c (x ∷ []) ∙ or_right (hidden c j) (covers x j || false) (or_left (covers x j) false h)

  -- ---- a context with limits, joined

  module _ (new : List Permission) where
    abbrev w : Item → Item
    w i = with_limits new i

    hidden-limited : (k j : List Item) (i : Item) → hidden k i ≡ true → hidden (joined j (map w k)) (w i) ≡ true
    hidden-limited [] j i h = cc
    hidden-limited (e ∷ k) j i h =
        or_cases (covers e i) (hidden k i) h
        (λ first. hidden-joined (added j (w e)) (map w k) (w i) (hidden-new j (w e) (w i) (covers-limited new e i first)))
        (λ rest. hidden-limited k (added j (w e)) i rest)

    one-more : (j k : List Item) (i : Item) → joined j (map w (added k i)) ≡ added (joined j (map w k)) (w i)
    one-more j k i = go (hidden k i) refl
      where
        go : (b : Bool) → hidden k i ≡ b → joined j (map w (cond b k (k ++ i ∷ []))) ≡ added (joined j (map w k)) (w i)
        go true e = sym (ap (λ t. cond t (joined j (map w k)) (joined j (map w k) ++ w i ∷ [])) (hidden-limited k j i e))
        go false e = ap (joined j) (map-append w k (i ∷ [])) ∙ joined-append j (map w k) (w i ∷ [])

    joined-limited : (j k c : List Item) → joined j (map w (joined k c)) ≡ joined (joined j (map w k)) (map w c)
    joined-limited j k [] = refl
    joined-limited j k (i ∷ c) = joined-limited j (added k i) c ∙ ap (λ l. joined l (map w c)) (one-more j k i)

  -- ---- privileges

  -- a domain without limits hides its own item, whatever its limits are
  own-hidden : (d : ℕ) (limits : List Permission) → hidden (plain d ∷ []) (record { limits = limits; domain = d }) ≡ true
  own-hidden d limits = ap (λ t. (t && true) || false) (eq-eqb d d refl)

  over-entered : (d : ℕ) (limits : Option (List Permission)) (given c : List Item)
      → joined (joined (plain d ∷ []) given) (limited limits (enter c d)) ≡ joined (joined (plain d ∷ []) given) (limited limits c)
  over-entered d None given c = refl
  over-entered d (Some new) given c =
      let j = joined (plain d ∷ []) given in
      ap (λ l. joined j (map (with_limits new) l)) (sym (joined-keep_after same (plain d ∷ []) c))
      ∙ joined-limited new j (plain d ∷ []) c
      ∙ ap (λ t. joined (cond t j (j ++ with_limits new (plain d) ∷ [])) (map (with_limits new) c))
      (hidden-joined (plain d ∷ []) given (with_limits new (plain d)) (own-hidden d (add_limits [] new)))

  both-joined : (d : ℕ) (given : Option (List Item)) (limits : Option (List Permission)) (c : List Item)
      → privileged d given limits c ≡ joined (joined (plain d ∷ []) (given_items given)) (limited limits c)
  both-joined d given limits c =
      sym (joined-keep_after same (plain d ∷ []) (given_items given ++ limited limits c))
      ∙ joined-append (plain d ∷ []) (given_items given) (limited limits c)

  -- a privilege that a method of a domain takes in the context that it entered is one in the context before
  pub privileged-entered : (d : ℕ) (given : Option (List Item)) (limits : Option (List Permission)) (c : List Item)
      → privileged d given limits (enter c d) ≡ privileged d given limits c
  privileged-entered d given limits c =
      both-joined d given limits (enter c d) ∙ over-entered d limits (given_items given) c ∙ sym (both-joined d given limits c)
