-- A context that grows item by item is the `keep` of all its items.
use Rattle.std.proofs.Common.{◌≡◌, ℕ, Bool, true, false, ◌||◌, ◌==◌, List, [], ◌∷◌, ◌++◌, refl, sym, ap, ◌∙◌, cond, subst, append_assoc, eqb-true, eq-eqb, ◌&&◌}
use Rattle.std.specs.List.{list_any}
use Rattle.std.proofs.lemmas.List.{append-nil}
use Rattle.std.proofs.lemmas.List.Folds.{list_any-append}
use Rattle.jperm.specs.declared.permission.Permission.{Permission}
use Rattle.jperm.specs.Permissions.{equal}
use Rattle.jctx.proofs.Bools.{EqualIsSame}
use Rattle.jctx.specs.declared.item.Item.{Item}
use Rattle.jctx.specs.PrivilegeLimits.{is_within}
use Rattle.std.proofs.Common.{Option}
use Rattle.jctx.specs.Contexts.{keep_after, keep, enter, privileged, limited}
use Rattle.jctx.specs.ProofNames.{given_items}
use Rattle.jctx.specs.ContextItems.{covers, plain}
use Rattle.jctx.proofs.MinimalContexts.{keep-keep}
use Rattle.jctx.specs.ContextGrowth.{hidden, added, joined}
use Rattle.jctx.proofs.Bools.{or_cases, or_left, or_right, and_left, and_right, and_both, or_absorbs, or_comm, or_zero}

-- a member of limits is one of those that they are within
within-member : (same : EqualIsSame) → (x : Permission) (bs cs : List Permission) → list_any (equal x) bs ≡ true → is_within bs cs ≡ true → list_any (equal x) cs ≡ true
within-member same x [] cs found within = cc
within-member same x (b ∷ bs) cs found within =
    or_cases (equal x b) (list_any (equal x) bs) found
    (λ e. subst (λ (y : Permission). list_any (equal y) cs ≡ true) (sym ((same x b).0 e)) (and_left (list_any (equal b) cs) (is_within bs cs) within))
    (λ e. within-member same x bs cs e (and_right (list_any (equal b) cs) (is_within bs cs) within))

within-within : (same : EqualIsSame) → (as' bs cs : List Permission) → is_within as' bs ≡ true → is_within bs cs ≡ true → is_within as' cs ≡ true
within-within same [] bs cs first second = refl
within-within same (a ∷ as') bs cs first second =
    and_both (list_any (equal a) cs) (is_within as' cs)
    (within-member same a bs cs (and_left (list_any (equal a) bs) (is_within as' bs) first) second)
    (within-within same as' bs cs (and_right (list_any (equal a) bs) (is_within as' bs) first) second)

-- what covers an item covers all that the item covers
covers-covers : (same : EqualIsSame) → (i j k : Item) → covers i j ≡ true → covers j k ≡ true → covers i k ≡ true
covers-covers same i j k first second =
    and_both (i.domain == k.domain) (is_within i.limits k.limits)
    (subst (λ d. (d == k.domain) ≡ true) (sym (eqb-true i.domain j.domain (and_left (i.domain == j.domain) (is_within i.limits j.limits) first)))
    (and_left (j.domain == k.domain) (is_within j.limits k.limits) second))
    (within-within same i.limits j.limits k.limits (and_right (i.domain == j.domain) (is_within i.limits j.limits) first)
    (and_right (j.domain == k.domain) (is_within j.limits k.limits) second))

pub hidden-covers : (same : EqualIsSame) → (c : List Item) (i j : Item) → hidden c i ≡ true → covers i j ≡ true → hidden c j ≡ true
hidden-covers same [] i j found more = found
hidden-covers same (e ∷ c) i j found more =
    or_cases (covers e i) (hidden c i) found
    (λ h. or_left (covers e j) (hidden c j) (covers-covers same e i j h more))
    (λ h. or_right (covers e j) (hidden c j) (hidden-covers same c i j h more))

-- only what earlier items cover counts
keep_after-alike : (e f c : List Item) → ((j : Item) → hidden e j ≡ hidden f j) → keep_after e c ≡ keep_after f c
keep_after-alike e f [] alike = refl
keep_after-alike e f (i ∷ c) alike =
    ap (λ t. cond t (keep_after (i ∷ e) c) (i ∷ keep_after (i ∷ e) c)) (alike i)
    ∙ ap (λ l. cond (hidden f i) l (i ∷ l)) (keep_after-alike (i ∷ e) (i ∷ f) c (λ j. ap (λ t. covers i j || t) (alike j)))

pub joined-keep_after : (same : EqualIsSame) → (c items : List Item) → joined c items ≡ c ++ keep_after c items
joined-keep_after same c [] = sym (append-nil c)
joined-keep_after same c (i ∷ items) = go (hidden c i) refl (joined-keep_after same c items) (joined-keep_after same (c ++ i ∷ []) items)
  where
    go : (b : Bool) → hidden c i ≡ b
        → joined c items ≡ c ++ keep_after c items
        → joined (c ++ i ∷ []) items ≡ (c ++ i ∷ []) ++ keep_after (c ++ i ∷ []) items
        → joined (cond b c (c ++ i ∷ [])) items ≡ c ++ cond b (keep_after (i ∷ c) items) (i ∷ keep_after (i ∷ c) items)
    go true e without more =
        without ∙ ap (λ l. c ++ l) (keep_after-alike c (i ∷ c) items (λ j. sym (or_comm (covers i j) (hidden c j) ∙ or_absorbs (hidden c j) (covers i j) (λ h. hidden-covers same c i j e h))))
    go false e without more =
        more ∙ append_assoc c (i ∷ []) (keep_after (c ++ i ∷ []) items)
        ∙ ap (λ l. c ++ i ∷ l) (keep_after-alike (c ++ i ∷ []) (i ∷ c) items
        (λ j. list_any-append (λ e. covers e j) c (i ∷ []) ∙ ap (λ t. hidden c j || t) (or_zero (covers i j)) ∙ or_comm (hidden c j) (covers i j)))

pub joined-append : (c a b : List Item) → joined c (a ++ b) ≡ joined (joined c a) b
joined-append c [] b = refl
joined-append c (i ∷ a) b = joined-append (added c i) a b

-- a domain's item with a context added is the context entered
pub enter_joined : (same : EqualIsSame) → (d : ℕ) (c start made : List Item) → start ≡ plain d ∷ [] → made ≡ joined start c → made ≡ enter c d
enter_joined same d c start made first all = all ∙ ap (λ l. joined l c) first ∙ joined-keep_after same (plain d ∷ []) c

pub enter_kept : (same : EqualIsSame) → (d : ℕ) (c start made : List Item) → start ≡ plain d ∷ [] → made ≡ joined start c → keep made ≡ made
enter_kept same d c start made first all = let e = enter_joined same d c start made first all in ap keep e ∙ keep-keep (plain d ∷ c) ∙ sym e

-- the same with a given context and what lies behind
pub privileged_joined : (same : EqualIsSame) → (d : ℕ) (given : Option (List Item)) (limits : Option (List Permission)) (c start over made : List Item)
    → start ≡ plain d ∷ [] → over ≡ joined start (given_items given) → made ≡ joined over (limited limits c)
    → made ≡ privileged d given limits c
privileged_joined same d given limits c start over made first second all =
    all ∙ ap (λ l. joined l (limited limits c)) (second ∙ ap (λ l. joined l (given_items given)) first)
    ∙ sym (joined-append (plain d ∷ []) (given_items given) (limited limits c))
    ∙ joined-keep_after same (plain d ∷ []) (given_items given ++ limited limits c)

pub privileged_kept : (same : EqualIsSame) → (d : ℕ) (given : Option (List Item)) (limits : Option (List Permission)) (c start over made : List Item)
    → start ≡ plain d ∷ [] → over ≡ joined start (given_items given) → made ≡ joined over (limited limits c)
    → keep made ≡ made
privileged_kept same d given limits c start over made first second all =
    let e = privileged_joined same d given limits c start over made first second all in
    ap keep e ∙ keep-keep (plain d ∷ given_items given ++ limited limits c) ∙ sym e

twice : (a : Bool) → (a || (a || false)) ≡ (a || false)
twice true = refl
twice false = refl

-- a call within the newest domain, where it has no limits, changes nothing
pub enter_same : (c : List Item) (d : ℕ) → keep (plain d ∷ c) ≡ plain d ∷ c → enter (plain d ∷ c) d ≡ plain d ∷ c
enter_same c d kept =
    ap (λ t. plain d ∷ cond ((t && true) || false) (keep_after (plain d ∷ plain d ∷ []) c) (plain d ∷ keep_after (plain d ∷ plain d ∷ []) c)) (eq-eqb d d refl)
    ∙ ap (λ l. plain d ∷ l) (keep_after-alike (plain d ∷ plain d ∷ []) (plain d ∷ []) c (λ j. twice (covers (plain d) j)))
    ∙ kept
