-- What a domain makes of a context in which no item covers a later one: its own item, and those of the other domains.
use Rattle.std.proofs.Common.{◌≡◌, ◌∙◌, ℕ, suc, ◌+◌, ◌≤◌, Bool, true, false, not, ◌&&◌, ◌||◌, ◌==◌, cond, List, [], ◌∷◌, ◌++◌, length, refl, sym, ap, arith}
use Rattle.std.proofs.lemmas.List.Folds.{list_any-append}
use Rattle.jctx.specs.declared.item.Item.{Item}
use Rattle.jctx.specs.Contexts.{enter, keep, keep_after}
use Rattle.jctx.specs.ContextGrowth.{hidden}
use Rattle.jctx.specs.ContextItems.{covers, plain}
use Rattle.jinterned.specs.InternedContexts.{others}

-- no more is kept than there is
kept_few : (e c : List Item) → length (keep_after e c) ≤ length c
kept_few e [] = omega (arith)
kept_few e (i ∷ c) = go (hidden e i) (kept_few (i ∷ e) c)
  where
    go : (b : Bool) → length (keep_after (i ∷ e) c) ≤ length c → length (cond b (keep_after (i ∷ e) c) (i ∷ keep_after (i ∷ e) c)) ≤ suc (length c)
    go true few = omega (arith, few)
    go false few = omega (arith, few)

tail_same : {T : Type 0} (x y : T) (xs ys : List T) → x ∷ xs ≡ y ∷ ys → xs ≡ ys
tail_same x y xs ys e = cc

only_first : (b : Bool) → ((b && true) || false) ≡ b
only_first true = refl
only_first false = refl

turned : {T : Type 0} (b : Bool) (x y : T) → cond b x y ≡ cond (not b) y x
turned true x y = refl
turned false x y = refl

-- an item that none of the earlier ones covers is covered by a domain's own where it is of that domain
own_hides : (e : List Item) (d : ℕ) (i : Item) → hidden e i ≡ false → hidden (e ++ plain d ∷ []) i ≡ (d == i.domain)
own_hides e d i none =
    list_any-append (λ x. covers x i) e (plain d ∷ []) ∙ ap (λ (t : Bool). t || (((d == i.domain) && true) || false)) none ∙ only_first (d == i.domain)

kept_others : (d : ℕ) (e c : List Item) → keep_after e c ≡ c → keep_after (e ++ plain d ∷ []) c ≡ others d c
kept_others d e [] kept = refl
kept_others d e (i ∷ c) kept = go (hidden e i) refl kept (kept_others d (i ∷ e) c)
  where
    later : List Item
    later = keep_after (i ∷ e) c

    mine : List Item
    mine = keep_after (i ∷ e ++ plain d ∷ []) c

    go : (b : Bool) → hidden e i ≡ b → cond b later (i ∷ later) ≡ i ∷ c → (later ≡ c → mine ≡ others d c)
        → cond (hidden (e ++ plain d ∷ []) i) mine (i ∷ mine) ≡ others d (i ∷ c)
    go true h same again = absurd (omega (arith, kept_few (i ∷ e) c, ap length same))
    go false h same again =
        ap (λ (t : Bool). cond t mine (i ∷ mine)) (own_hides e d i h)
        ∙ ap (λ (l : List Item). cond (d == i.domain) l (i ∷ l)) (again (tail_same i i later c same))
        ∙ turned (d == i.domain) (others d c) (i ∷ others d c)

pub entered_others : (d : ℕ) (c start made : List Item) → keep c ≡ c → start ≡ plain d ∷ [] → made ≡ start ++ others d c → made ≡ enter c d
entered_others d c start made kept first all = all ∙ ap (λ (l : List Item). l ++ others d c) first ∙ ap (λ (l : List Item). plain d ∷ l) (sym (kept_others d [] c kept))
