-- Lists that are gone through run by run.
use Rattle.std.proofs.Common.{◌≡◌, ◌∙◌, ◌+◌, ◌≤◌, ℕ, zero, suc, Bool, true, false, ◌&&◌, ◌==◌, cond, List, [], ◌∷◌, ◌++◌, length, drop, take, map, not, Some, refl, sym, subst, ap, ap₂, arith, append-nil, append_assoc}
use Rattle.std.specs.Prelude.{slice_get}
use Rattle.std.proofs.lemmas.List.{length-append, length-drop, length-take-le, drop-drop, map-append, take-append-drop}
use Rattle.std.proofs.lemmas.List.Elements.{filter-append}
use Rattle.std.proofs.Math.Seq.{drop-append_seam}
use Rattle.jperm.specs.declared.permission.Permission.{Permission}
use Rattle.jdomain.specs.declared.verdict.Verdict.{Verdict}
use Rattle.jdomain.specs.declared.verdict.Verdict.TheVariants.{Granted, Denied}
use Rattle.jctx.specs.declared.item.Item.{Item}
use Rattle.jctx.specs.Contexts.{verdict}
use Rattle.jctx.specs.ContextItems.{fails}
use Rattle.jinterned.specs.declared.pairs.Pair.{Pair}
use Rattle.jinterned.specs.PairLists.{BeginsWith}
use Rattle.jinterned.specs.ContextStores.{AreNamed, item_of, items_of}
use Rattle.jinterned.specs.InternedContexts.{alike, before, others, pairwise, same_pair}
use Rattle.jinterned.proofs.PairLists.{get_behind}

module _ {T : Type 0} (list run : List T) (i : ℕ) (begins : BeginsWith (drop i list) run) where
  behind : drop (i + length run) list ≡ begins.more
  behind = sym (drop-drop (length run) i list) ∙ ap (drop (length run)) begins.is ∙ drop-append_seam run begins.more

  pub split : drop i list ≡ run ++ drop (i + length run) list
  split = begins.is ∙ ap (λ (l : List T). run ++ l) (sym behind)

  pub no_further : i + length run ≤ length list
  no_further = omega (arith, ap length begins.is, length-drop i list, length-append run begins.more, begins.some)

-- ---- pairs whose limits have numbers

pub named_both : (count : ℕ) (xs ys : List Pair) → AreNamed count xs → AreNamed count ys → AreNamed count (xs ++ ys)
named_both count [] ys a b i p is = b i p is
named_both count (x ∷ xs) ys a b zero p is = a zero p is
named_both count (x ∷ xs) ys a b (suc i) p is = named_both count xs ys (λ j q e. a (suc j) q e) b i p is

pub named_take : (count n : ℕ) (xs : List Pair) → AreNamed count xs → AreNamed count (take n xs)
named_take count zero xs named i p is = cc
named_take count (suc n) [] named i p is = cc
named_take count (suc n) (x ∷ xs) named zero p is = named zero p is
named_take count (suc n) (x ∷ xs) named (suc i) p is = named_take count n xs (λ j q e. named (suc j) q e) i p is

pub named_drop : (count n : ℕ) (xs : List Pair) → AreNamed count xs → AreNamed count (drop n xs)
named_drop count n xs named i p is = named (n + i) p (sym (get_behind n i xs) ∙ is)

named_front : (count : ℕ) (xs ys : List Pair) → AreNamed count (xs ++ ys) → AreNamed count xs
named_front count [] ys named i p is = cc
named_front count (x ∷ xs) ys named zero p is = named zero p is
named_front count (x ∷ xs) ys named (suc i) p is = named_front count xs ys (λ j q e. named (suc j) q e) i p is

pub named_run : (count i : ℕ) (list run : List Pair) → BeginsWith (drop i list) run → AreNamed count list → AreNamed count run
named_run count i list run begins named = named_front count run begins.more (subst (λ (l : List Pair). AreNamed count l) begins.is (named_drop count i list named))

-- ---- items of other domains

others_both : (f : Pair → Item) (d : ℕ) (ps qs : List Pair) → others d (map f (ps ++ qs)) ≡ others d (map f ps) ++ others d (map f qs)
others_both f d ps qs = ap (others d) (map-append f ps qs) ∙ filter-append (λ (i : Item). not (d == i.domain)) (map f ps) (map f qs)

pub others_run : (f : Pair → Item) (list run : List Pair) (d : ℕ) (cur new total : List Item) (i : ℕ) → BeginsWith (drop i list) run
    → new ≡ cur ++ others d (map f run) → cur ++ others d (map f (drop i list)) ≡ total → new ++ others d (map f (drop (i + length run) list)) ≡ total
others_run f list run d cur new total i begins is all =
    let rest : List Pair = drop (i + length run) list in
    ap (λ (l : List Item). l ++ others d (map f rest)) is
    ∙ append_assoc cur (others d (map f run)) (others d (map f rest))
    ∙ ap (λ (l : List Item). cur ++ l) (sym (others_both f d run rest))
    ∙ ap (λ (l : List Pair). cur ++ others d (map f l)) (sym (split list run i begins))
    ∙ all

-- ---- what a run decides

verdict_both : (f : Pair → Item) (has : ℕ → Permission → Bool) (asked : Permission) (ps qs : List Pair)
    → verdict has asked (map f ps) ≡ Granted → verdict has asked (map f (ps ++ qs)) ≡ verdict has asked (map f qs)
verdict_both f has asked [] qs is = refl
verdict_both f has asked (p ∷ ps) qs is = go (fails has asked (f p)) is (verdict_both f has asked ps qs)
  where
    go : (b : Bool) → cond b (Denied (f p).domain) (verdict has asked (map f ps)) ≡ Granted
        → (verdict has asked (map f ps) ≡ Granted → verdict has asked (map f (ps ++ qs)) ≡ verdict has asked (map f qs))
        → cond b (Denied (f p).domain) (verdict has asked (map f (ps ++ qs))) ≡ verdict has asked (map f qs)
    go true is again = cc
    go false is again = again is

verdict_here : (f : Pair → Item) (has : ℕ → Permission → Bool) (asked : Permission) (ps qs : List Pair) (d : ℕ)
    → verdict has asked (map f ps) ≡ Denied d → verdict has asked (map f (ps ++ qs)) ≡ Denied d
verdict_here f has asked [] qs d is = cc
verdict_here f has asked (p ∷ ps) qs d is = go (fails has asked (f p)) is (verdict_here f has asked ps qs d)
  where
    go : (b : Bool) → cond b (Denied (f p).domain) (verdict has asked (map f ps)) ≡ Denied d
        → (verdict has asked (map f ps) ≡ Denied d → verdict has asked (map f (ps ++ qs)) ≡ Denied d)
        → cond b (Denied (f p).domain) (verdict has asked (map f (ps ++ qs))) ≡ Denied d
    go true is again = is
    go false is again = again is

module _ (f : Pair → Item) (has : ℕ → Permission → Bool) (asked : Permission) (list run : List Pair) (i : ℕ) (begins : BeginsWith (drop i list) run) where
  abbrev decides : List Pair → Verdict
  decides pairs = verdict has asked (map f pairs)

  pub run_denies : (d : ℕ) (total : Verdict) → decides run ≡ Denied d → decides (drop i list) ≡ total → Denied d ≡ total
  run_denies d total is all = sym (ap decides (split list run i begins) ∙ verdict_here f has asked run (drop (i + length run) list) d is) ∙ all

  pub run_grants : (total : Verdict) → decides run ≡ Granted → decides (drop i list) ≡ total → decides (drop (i + length run) list) ≡ total
  run_grants total is all = sym (ap decides (split list run i begins) ∙ verdict_both f has asked run (drop (i + length run) list) is) ∙ all

-- a list of one pair decides as the pair's item does
pub one_decides : (f : Pair → Item) (has : ℕ → Permission → Bool) (asked : Permission) (list : List Pair) (p : Pair) → length list ≡ 1 → Some p ≡ slice_get list 0
    → verdict has asked (f p ∷ []) ≡ verdict has asked (map f list)
one_decides f has asked [] p one is = absurd (omega (arith, one))
one_decides f has asked (q ∷ []) p one is = cc
one_decides f has asked (q ∷ r ∷ list) p one is = absurd (omega (arith, one))

-- and one of two pairs as their items do
pub two_decides : (f : Pair → Item) (has : ℕ → Permission → Bool) (asked : Permission) (list : List Pair) (p q : Pair) → length list ≡ 2
    → Some p ≡ slice_get list 0 → Some q ≡ slice_get list 1 → verdict has asked (f p ∷ f q ∷ []) ≡ verdict has asked (map f list)
two_decides f has asked [] p q two is next = absurd (omega (arith, two))
two_decides f has asked (a ∷ []) p q two is next = absurd (omega (arith, two))
two_decides f has asked (a ∷ b ∷ []) p q two is next = cc
two_decides f has asked (a ∷ b ∷ c ∷ list) p q two is next = absurd (omega (arith, two))

-- a run that is no shorter than a list that it begins is all of it
module _ {T : Type 0} (list run : List T) where
  without_more : (more : List T) → list ≡ run ++ more → length list ≤ length run → list ≡ run
  without_more [] is all = is ∙ append-nil run
  without_more (x ∷ more) is all = absurd (omega (arith, all, ap length is, length-append run (x ∷ more)))

  whole_run : BeginsWith list run → length list ≤ length run → list ≡ run
  whole_run begins all = without_more begins.more begins.is all

-- the first two pairs of a list and all that are behind them decide as their items do
pub all_decides : (f : Pair → Item) (has : ℕ → Permission → Bool) (asked : Permission) (list : List Pair) (p q : Pair) (run : List Pair)
    → Some p ≡ slice_get list 0 → Some q ≡ slice_get list 1 → BeginsWith (drop 2 list) run → length list ≤ 2 + length run
    → verdict has asked (f p ∷ f q ∷ map f run) ≡ verdict has asked (map f list)
all_decides f has asked [] p q run is next begins all = cc
all_decides f has asked (a ∷ []) p q run is next begins all = cc
all_decides f has asked (a ∷ b ∷ list) p q run is next begins all =
    let rest : list ≡ run = whole_run list run begins (omega (arith, all)) in
    cc

-- ---- runs that are compared

and_assoc : (a b c : Bool) → ((a && b) && c) ≡ (a && (b && c))
and_assoc true b c = refl
and_assoc false b c = refl

pub pairwise_both : {T : Type 0} (test : T → T → Bool) (xs us ys vs : List T) → length xs ≡ length ys → pairwise test (xs ++ us) (ys ++ vs) ≡ (pairwise test xs ys && pairwise test us vs)
pairwise_both test [] us [] vs long = refl
pairwise_both test [] us (y ∷ ys) vs long = absurd (omega (arith, long))
pairwise_both test (x ∷ xs) us [] vs long = absurd (omega (arith, long))
pairwise_both test (x ∷ xs) us (y ∷ ys) vs long =
    ap (λ (t : Bool). test x y && t) (pairwise_both test xs us ys vs (omega (arith, long))) ∙ sym (and_assoc (test x y) (pairwise test xs ys) (pairwise test us vs))

module _ (list run rest front behind : List Pair) (i : ℕ) (begins : BeginsWith (drop i list) run)
    (first : front ≡ take (length run) rest) (last : behind ≡ drop (length run) rest) (long : i + length rest ≡ length list) where
  both_cut : pairwise same_pair (drop i list) rest ≡ (pairwise same_pair run front && pairwise same_pair (drop (i + length run) list) behind)
  both_cut =
      let few : length run ≤ length rest = omega (arith, no_further list run i begins, long) in
      ap₂ (pairwise same_pair) (split list run i begins) (sym (take-append-drop (length run) rest))
      ∙ pairwise_both same_pair run (drop (i + length run) list) (take (length run) rest) (drop (length run) rest) (sym (length-take-le (length run) rest few))
      ∙ ap₂ (λ (f b : List Pair). pairwise same_pair run f && pairwise same_pair (drop (i + length run) list) b) (sym first) (sym last)

  pub run_same : (total : Bool) → pairwise same_pair run front ≡ true → pairwise same_pair (drop i list) rest ≡ total → pairwise same_pair (drop (i + length run) list) behind ≡ total
  run_same total yes_ all = sym (both_cut ∙ ap (λ (t : Bool). t && pairwise same_pair (drop (i + length run) list) behind) yes_) ∙ all

pub run_differs : (list run pairs rest front : List Pair) (i : ℕ) → BeginsWith (drop i list) run → front ≡ take (length run) rest → i + length rest ≡ length list
    → pairwise same_pair run front ≡ false → pairwise same_pair (drop i list) rest ≡ pairwise same_pair list pairs → false ≡ alike same_pair list pairs
run_differs list run pairs rest front i begins first long no_ all =
    sym (none_behind (length list == length pairs) (pairwise same_pair list pairs)
    (sym all ∙ both_cut list run rest front (drop (length run) rest) i begins first refl long
    ∙ ap (λ (t : Bool). t && pairwise same_pair (drop (i + length run) list) (drop (length run) rest)) no_))
  where
    none_behind : (a b : Bool) → b ≡ false → (a && b) ≡ false
    none_behind true b e = e
    none_behind false b e = refl

-- ---- a run in front of the first item of a domain

pub before_few : (d : ℕ) (ps : List Pair) → before d ps ≤ length ps
before_few d [] = omega arith
before_few d (p ∷ ps) = go (d == p.domain) (before_few d ps)
  where
    go : (b : Bool) → before d ps ≤ length ps → cond b 0 (suc (before d ps)) ≤ suc (length ps)
    go true few = omega arith
    go false few = omega (arith, few)

pub others_split : (sets : List (List Permission)) (d : ℕ) (ps : List Pair)
    → items_of sets (take (before d ps) ps) ++ others d (items_of sets (drop 1 (drop (before d ps) ps))) ≡ others d (items_of sets ps)
others_split sets d [] = refl
others_split sets d (p ∷ ps) = go (d == p.domain) (others_split sets d ps)
  where
    n : ℕ
    n = before d ps

    go : (b : Bool) → items_of sets (take n ps) ++ others d (items_of sets (drop 1 (drop n ps))) ≡ others d (items_of sets ps)
        → items_of sets (take (cond b 0 (suc n)) (p ∷ ps)) ++ others d (items_of sets (drop 1 (drop (cond b 0 (suc n)) (p ∷ ps))))
        ≡ cond (not b) (item_of sets p ∷ others d (items_of sets ps)) (others d (items_of sets ps))
    go true again = refl
    go false again = ap (λ (l : List Item). item_of sets p ∷ l) again

pub others_next : (sets : List (List Permission)) (d : ℕ) (made new rest front left : List Pair) (total : List Item) (n : ℕ)
    → new ≡ made ++ front → front ≡ take n rest → left ≡ drop 1 (drop n rest) → n ≡ before d rest
    → items_of sets made ++ others d (items_of sets rest) ≡ total → items_of sets new ++ others d (items_of sets left) ≡ total
others_next sets d made new rest front left total n is first last at all =
    let cut : List Pair = take (before d rest) rest in
    let more : List Item = others d (items_of sets (drop 1 (drop (before d rest) rest))) in
    ap₂ (λ (m l : List Pair). items_of sets m ++ others d (items_of sets l))
    (is ∙ ap (λ (f : List Pair). made ++ f) (first ∙ ap (λ (k : ℕ). take k rest) at)) (last ∙ ap (λ (k : ℕ). drop 1 (drop k rest)) at)
    ∙ ap (λ (l : List Item). l ++ more) (map-append (item_of sets) made cut)
    ∙ append_assoc (items_of sets made) (items_of sets cut) more
    ∙ ap (λ (l : List Item). items_of sets made ++ l) (others_split sets d rest)
    ∙ all
