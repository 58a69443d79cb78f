-- Contexts that are made pair by pair, and what they decide.
use Rattle.std.proofs.Common.{◌≡◌, ◌≢◌, ◌∙◌, ℕ, ◌+◌, ◌<◌, ◌≤◌, Bool, true, false, ◌&&◌, ◌==◌, ◌||◌, cond, List, [], ◌∷◌, ◌++◌, length, drop, map, Some, refl, sym, ap, ap₂, arith, eq-eqb}
use Rattle.std.specs.Prelude.{Decides, slice_get, get_or}
use Rattle.std.proofs.lemmas.Bool.Decides.{Decides-eqb}
use Rattle.std.proofs.lemmas.Option.{get_or_from_slice_get}
use Rattle.std.proofs.lemmas.List.{at_drop_more}
use Rattle.jperm.specs.declared.permission.Permission.{Permission}
use Rattle.jctx.specs.declared.item.Item.{Item}
use Rattle.jctx.specs.ContextGrowth.{added, hidden, joined}
use Rattle.jctx.specs.ContextItems.{covers}
use Rattle.jinterned.specs.declared.pairs.Pair.{Pair}
use Rattle.jinterned.proofs.ListCuts.{cut_at, cut_end}
use Rattle.jinterned.specs.LimitSets.{limits_at}
use Rattle.jinterned.specs.ContextStores.{item_of, items_of}
use Rattle.jinterned.specs.InternedContexts.{begins_with}

-- ---- one item more

pub added_hidden : (c : List Item) (i : Item) → hidden c i ≡ true → c ≡ added c i
added_hidden c i h = sym (ap (λ (t : Bool). cond t c (c ++ i ∷ [])) h)

pub added_new : (c : List Item) (i : Item) → hidden c i ≡ false → c ++ i ∷ [] ≡ added c i
added_new c i h = sym (ap (λ (t : Bool). cond t c (c ++ i ∷ [])) h)

module _ (sets : List (List Permission)) (made : List Pair) (x : Item) where
  abbrev hides : List Pair → Bool
  hides pairs = hidden (items_of sets pairs) x

  next_hides : (i : ℕ) (d : Pair) → i < length made → hides (drop i made) ≡ (covers (item_of sets (get_or made i d)) x || hides (drop (i + 1) made))
  next_hides i d lt = at_drop_more hides made i d lt

  pub hides_yes : (i : ℕ) (d : Pair) → i < length made → covers (item_of sets (get_or made i d)) x ≡ true → hides (drop i made) ≡ true
  hides_yes i d lt yes_ = next_hides i d lt ∙ ap (λ (t : Bool). t || hides (drop (i + 1) made)) yes_

  pub hides_no : (i : ℕ) (d : Pair) → i < length made → covers (item_of sets (get_or made i d)) x ≡ false → hides (drop (i + 1) made) ≡ hides (drop i made)
  hides_no i d lt no_ = sym (next_hides i d lt ∙ ap (λ (t : Bool). t || hides (drop (i + 1) made)) no_)

  pub hides_end : (i : ℕ) → length made ≤ i → hides (drop i made) ≡ false
  hides_end i end = ap hides (cut_end made i end)

-- ---- items of a list in turn

module _ (f : Pair → Item) (list : List Pair) where
  pub joined_next : (cur new total : List Item) (i : ℕ) (p : Pair) → Some p ≡ slice_get list i → new ≡ added cur (f p)
      → joined cur (map f (drop i list)) ≡ total → joined new (map f (drop (i + 1) list)) ≡ total
  joined_next cur new total i p at is all =
      ap (λ (c : List Item). joined c (map f (drop (i + 1) list))) is ∙ sym (ap (λ (l : List Pair). joined cur (map f l)) (cut_at list i p at)) ∙ all

  pub joined_end : (cur total : List Item) (i : ℕ) → length list ≤ i → joined cur (map f (drop i list)) ≡ total → cur ≡ total
  joined_end cur total i end all = sym (ap (λ (l : List Pair). joined cur (map f l)) (cut_end list i end)) ∙ all

  module _ (g : Item → Item) where
    pub changed_next : (cur new total : List Item) (i : ℕ) (p : Pair) → Some p ≡ slice_get list i → new ≡ added cur (g (f p))
        → joined cur (map g (map f (drop i list))) ≡ total → joined new (map g (map f (drop (i + 1) list))) ≡ total
    changed_next cur new total i p at is all =
        ap (λ (c : List Item). joined c (map g (map f (drop (i + 1) list)))) is ∙ sym (ap (λ (l : List Pair). joined cur (map g (map f l))) (cut_at list i p at)) ∙ all

    pub changed_end : (cur total : List Item) (i : ℕ) → length list ≤ i → joined cur (map g (map f (drop i list))) ≡ total → cur ≡ total
    changed_end cur total i end all = sym (ap (λ (l : List Pair). joined cur (map g (map f l))) (cut_end list i end)) ∙ all

-- ---- whether a context begins with a domain without limits

module _ (sets : List (List Permission)) (pairs : List Pair) (d : ℕ) where
  pub begins_none : length pairs ≡ 0 → false ≡ begins_with (items_of sets pairs) d
  begins_none none = go pairs none
    where
      go : (ps : List Pair) → length ps ≡ 0 → false ≡ begins_with (items_of sets ps) d
      go [] none = refl
      go (p ∷ ps) none = absurd (omega (arith, none))

  pub begins_other : (p : Pair) → Some p ≡ slice_get pairs 0 → p.domain ≢ d → false ≡ begins_with (items_of sets pairs) d
  begins_other p at other = go pairs at
    where
      test_false : (a b : ℕ) → a ≢ b → (a == b) ≡ false
      test_false a b ne = by_test (a == b) (Decides-eqb a b)
        where
          by_test : (t : Bool) → Decides t (a ≡ b) → t ≡ false
          by_test true decides = absurd (ne (decides.0 refl))
          by_test false decides = refl

      same : (a b : Pair) → Some a ≡ Some b → a ≡ b
      same a b e = cc

      go : (ps : List Pair) → Some p ≡ slice_get ps 0 → false ≡ begins_with (items_of sets ps) d
      go [] at = cc
      go (q ∷ ps) at =
          sym (ap (λ (x : Pair). (x.domain == d) && (length (limits_at sets x.limits) == 0)) (sym (same p q at))
          ∙ ap (λ (t : Bool). t && (length (limits_at sets p.limits) == 0)) (test_false p.domain d other))

  pub begins_same : (p : Pair) (l : List Permission) → Some p ≡ slice_get pairs 0 → p.domain ≡ d → slice_get sets p.limits ≡ Some l → (length l == 0) ≡ begins_with (items_of sets pairs) d
  begins_same p l at is here = go pairs at
    where
      same : (a b : Pair) → Some a ≡ Some b → a ≡ b
      same a b e = cc

      go : (ps : List Pair) → Some p ≡ slice_get ps 0 → (length l == 0) ≡ begins_with (items_of sets ps) d
      go [] at = cc
      go (q ∷ ps) at =
          sym (ap (λ (x : Pair). (x.domain == d) && (length (limits_at sets x.limits) == 0)) (sym (same p q at))
          ∙ ap₂ (λ (t : Bool) (k : List Permission). t && (length k == 0)) (eq-eqb p.domain d is) (get_or_from_slice_get sets p.limits l [] here))
