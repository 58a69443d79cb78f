-- Limits by number, each once, and the items of pairs.
use Rattle.std.proofs.Common.{◌≡◌, ◌∙◌, ◌⊎◌, inl, inr, ℕ, suc, ◌<◌, Bool, true, ◌&&◌, List, [], ◌∷◌, ◌++◌, length, map, Option, Some, None, option_map, refl, sym, ap, ap₂, subst, arith, ◌||◌, false, append_assoc}
use Rattle.std.specs.Prelude.{slice_get, get_or}
use Rattle.std.specs.List.{list_any}
use Rattle.std.proofs.lemmas.List.{length-append, map-append, append-nil}
use Rattle.std.proofs.lemmas.Option.{slice_get-map, slice_get-get_or, get_or_from_slice_get}
use Rattle.jperm.specs.declared.permission.Permission.{Permission}
use Rattle.jperm.specs.Permissions.{equal}
use Rattle.jctx.specs.declared.item.Item.{Item}
use Rattle.jctx.specs.ContextGrowth.{added}
use Rattle.jctx.specs.ContextItems.{with_limits}
use Rattle.jctx.specs.PrivilegeLimits.{add_limits, is_within}
use Rattle.jctx.specs.ContextLaws.{IsKept}
use Rattle.jinterned.specs.declared.pairs.Pair.{Pair}
use Rattle.jinterned.specs.PairLists.{Extends}
use Rattle.jinterned.specs.LimitSets.{limits_at}
use Rattle.jinterned.specs.ContextStores.{Stored, AllNamed, AreNamed, HoldsList, context_in, contexts_of, item_of, items_of}
use Rattle.jinterned.specs.InternedContexts.{AreDistinct, AreTabled, Holds, IsNew, IsThat}
use Rattle.jinterned.proofs.DigestChains.{front_or}
use Rattle.jinterned.proofs.Sameness.{EqualIsSame}
use Rattle.jinterned.proofs.ListAppends.{stands, Old, Last, tabled_more}

-- ---- limits within limits

within_more : (ps qs : List Permission) (q : Permission) → is_within ps qs ≡ true → is_within ps (q ∷ qs) ≡ true
within_more [] qs q h = refl
within_more (p ∷ ps) qs q h = both (equal p q) (list_any (equal p) qs) (is_within ps qs) (is_within ps (q ∷ qs)) h (within_more ps qs q)
  where
    both : (e a w v : Bool) → (a && w) ≡ true → (w ≡ true → v ≡ true) → ((e || a) && v) ≡ true
    both true true w v h more = more h
    both true false w v h more = cc
    both false true w v h more = more h
    both false false w v h more = cc

pub within_itself : EqualIsSame → (ps : List Permission) → is_within ps ps ≡ true
within_itself same [] = refl
within_itself same (p ∷ ps) =
    first (equal p p) (list_any (equal p) ps) (is_within ps (p ∷ ps)) ((same p p).1 refl) (within_more ps ps p (within_itself same ps))
  where
    first : (e a w : Bool) → e ≡ true → w ≡ true → ((e || a) && w) ≡ true
    first true a w h k = k
    first false a w h k = cc

pub within_none : (sets : List (List Permission)) (a b : ℕ) → slice_get sets 0 ≡ Some [] → a ≡ 0 → true ≡ is_within (limits_at sets a) (limits_at sets b)
within_none sets a b first is = sym (ap (λ (l : List Permission). is_within l (limits_at sets b)) (ap (limits_at sets) is ∙ get_or_from_slice_get sets 0 [] [] first))

pub within_equal : EqualIsSame → (sets : List (List Permission)) (a b : ℕ) → a ≡ b → true ≡ is_within (limits_at sets a) (limits_at sets b)
within_equal same sets a b is =
    sym (ap (λ (n : ℕ). is_within (limits_at sets a) (limits_at sets n)) (sym is) ∙ within_itself same (limits_at sets a))

pub within_read : (sets : List (List Permission)) (a b : ℕ) (la lb : List Permission) → slice_get sets a ≡ Some la → slice_get sets b ≡ Some lb
    → is_within la lb ≡ is_within (limits_at sets a) (limits_at sets b)
within_read sets a b la lb at other = ap₂ is_within (sym (get_or_from_slice_get sets a la [] at)) (sym (get_or_from_slice_get sets b lb [] other))

-- ---- more limits

pub longer : {T : Type 0} (old new : List T) (n : ℕ) → Extends old new → n < length old → n < length new
longer old new n extends lt = omega (arith, lt, ap length extends.is, length-append old extends.more)

pub limits_more : (old new : List (List Permission)) (n : ℕ) → Extends old new → n < length old → limits_at new n ≡ limits_at old n
limits_more old new n extends lt = ap (λ (s : List (List Permission)). limits_at s n) extends.is ∙ front_or n [] old extends.more lt

abbrev item : List Permission → ℕ → Item
item limits domain = record { limits = limits; domain = domain }

pub item_more : (old new : List (List Permission)) (p : Pair) → Extends old new → p.limits < length old → item_of new p ≡ item_of old p
item_more old new p extends lt = ap (λ (l : List Permission). item l p.domain) (limits_more old new p.limits extends lt)

pub items_more : (old new : List (List Permission)) (pairs : List Pair) → Extends old new → AreNamed (length old) pairs → items_of new pairs ≡ items_of old pairs
items_more old new [] extends named = refl
items_more old new (p ∷ pairs) extends named =
    ap₂ (λ (i : Item) (is : List Item). i ∷ is) (item_more old new p extends (named 0 p refl)) (items_more old new pairs extends (λ k q is. named (suc k) q is))

pub named_more : (old new : List (List Permission)) (pairs : List Pair) → Extends old new → AreNamed (length old) pairs → AreNamed (length new) pairs
named_more old new pairs extends named i p is = longer old new p.limits extends (named i p is)

pub all_named_more : (old new : List (List Permission)) (lists : List (List Pair)) → Extends old new → AllNamed (length old) lists → AllNamed (length new) lists
all_named_more old new lists extends named n pairs is = named_more old new pairs extends (named n pairs is)

pub contexts_more : (old new : List (List Permission)) (lists : List (List Pair)) → Extends old new → AllNamed (length old) lists
    → map (items_of new) lists ≡ map (items_of old) lists
contexts_more old new [] extends named = refl
contexts_more old new (pairs ∷ lists) extends named =
    ap₂ (λ (c : List Item) (cs : List (List Item)). c ∷ cs) (items_more old new pairs extends (named 0 pairs refl)) (contexts_more old new lists extends (λ n ps is. named (suc n) ps is))

pub extends_itself : {T : Type 0} (xs : List T) → Extends xs xs
extends_itself xs = record { more = []; is = sym (append-nil xs) }

pub extends_same : {T : Type 0} (xs ys : List T) → ys ≡ xs → Extends xs ys
extends_same xs ys same = record { more = []; is = same ∙ sym (append-nil xs) }

pub extends_both : {T : Type 0} (xs ys zs : List T) → Extends xs ys → Extends ys zs → Extends xs zs
extends_both xs ys zs a b = record { more = a.more ++ b.more; is = b.is ∙ ap (λ (l : List _). l ++ b.more) a.is ∙ append_assoc xs a.more b.more }

-- ---- pairs one behind the other

pub named_behind : (count : ℕ) (pairs : List Pair) (p : Pair) → AreNamed count pairs → p.limits < count → AreNamed count (pairs ++ p ∷ [])
named_behind count pairs p named lt i q is = by_case (stands pairs p i q is)
  where
    by_case : Old pairs i q ⊎ Last pairs p i q → q.limits < count
    by_case (inl o) = named i q o.old
    by_case (inr l) = subst (λ (x : Pair). x.limits < count) l.is lt

pub all_named_behind : (count : ℕ) (lists : List (List Pair)) (pairs : List Pair) → AllNamed count lists → AreNamed count pairs → AllNamed count (lists ++ pairs ∷ [])
all_named_behind count lists pairs named more n ps is = by_case (stands lists pairs n ps is)
  where
    by_case : Old lists n ps ⊎ Last lists pairs n ps → AreNamed count ps
    by_case (inl o) = named n ps o.old
    by_case (inr l) = subst (AreNamed count) l.is more

pub items_behind : (sets : List (List Permission)) (pairs : List Pair) (p : Pair) → items_of sets (pairs ++ p ∷ []) ≡ items_of sets pairs ++ item_of sets p ∷ []
items_behind sets pairs p = map-append (item_of sets) pairs (p ∷ [])

pub named_at : (count : ℕ) (lists : List (List Pair)) (n i : ℕ) (p : Pair) → AllNamed count lists → n < length lists → Some p ≡ slice_get (get_or lists n []) i → p.limits < count
named_at count lists n i p named lt is = named n (get_or lists n []) (slice_get-get_or lists n [] lt) i p (sym is)

-- an item whose limits are those of another with new ones added
pub limited_added : (old new : List (List Permission)) (pairs made : List Pair) (p : Pair) (n : ℕ) (limits : List Permission)
    → Extends old new → AreNamed (length old) pairs → slice_get new n ≡ Some (add_limits (limits_at old p.limits) limits)
    → items_of new made ≡ added (items_of new pairs) (item_of new (record { limits = n; domain = p.domain }))
    → items_of new made ≡ added (items_of old pairs) (with_limits limits (item_of old p))
limited_added old new pairs made p n limits extends named at given =
    subst (λ (is : List Item). items_of new made ≡ added is (with_limits limits (item_of old p))) (items_more old new pairs extends named)
    (subst (λ (i : Item). items_of new made ≡ added (items_of new pairs) i)
    (ap (λ (l : List Permission). item l p.domain) (get_or_from_slice_get new n (add_limits (limits_at old p.limits) limits) [] at)) given)

-- the number of limits with new ones added stays one
pub extended_known : (old new : List (List Permission)) (n m : ℕ) (limits : List Permission) → Extends old new → n < length old
    → slice_get new m ≡ Some (add_limits (limits_at old n) limits) → slice_get new m ≡ Some (add_limits (limits_at new n) limits)
extended_known old new n m limits extends lt is = is ∙ ap (λ (l : List Permission). Some (add_limits l limits)) (sym (limits_more old new n extends lt))

-- ---- equal items are of equal pairs

same_some : {T : Type 0} (a b : T) → Some a ≡ Some b → a ≡ b
same_some a b e = cc

same_limits_number : (sets : List (List Permission)) (a b : ℕ) → AreDistinct sets → a < length sets → b < length sets → limits_at sets a ≡ limits_at sets b → a ≡ b
same_limits_number sets a b distinct at other is =
    distinct a b (limits_at sets a) (slice_get-get_or sets a [] at) (slice_get-get_or sets b [] other ∙ ap (λ (l : List Permission). Some l) (sym is))

abbrev pair : ℕ → ℕ → Pair
pair l d = record { limits = l; domain = d }

head_same : {T : Type 0} (x y : T) (xs ys : List T) → x ∷ xs ≡ y ∷ ys → x ≡ y
head_same x y xs ys e = cc

tail_same : {T : Type 0} (x y : T) (xs ys : List T) → x ∷ xs ≡ y ∷ ys → xs ≡ ys
tail_same x y xs ys e = cc

items_inject : (sets : List (List Permission)) → AreDistinct sets → (ps qs : List Pair) → AreNamed (length sets) ps → AreNamed (length sets) qs → items_of sets ps ≡ items_of sets qs → ps ≡ qs
items_inject sets distinct [] [] named other is = refl
items_inject sets distinct [] (q ∷ qs) named other is = cc
items_inject sets distinct (p ∷ ps) [] named other is = cc
items_inject sets distinct (p ∷ ps) (q ∷ qs) named other is =
    let first = head_same (item_of sets p) (item_of sets q) (items_of sets ps) (items_of sets qs) is in
    let limits = same_limits_number sets p.limits q.limits distinct (named 0 p refl) (other 0 q refl) (ap (λ (i : Item). i.limits) first) in
    ap₂ (λ (x : Pair) (xs : List Pair). x ∷ xs) (ap₂ pair limits (ap (λ (i : Item). i.domain) first))
    (items_inject sets distinct ps qs (λ k r at. named (suc k) r at) (λ k r at. other (suc k) r at)
    (tail_same (item_of sets p) (item_of sets q) (items_of sets ps) (items_of sets qs) is))

-- a list that isn't there is no context that is there
new_context : (sets : List (List Permission)) (lists : List (List Pair)) (pairs : List Pair) → AreDistinct sets → AllNamed (length sets) lists → AreNamed (length sets) pairs
    → IsNew lists pairs → IsNew (map (items_of sets) lists) (items_of sets pairs)
new_context sets lists pairs distinct all named new i is = by_case (slice_get lists i) refl (sym (slice_get-map (items_of sets) lists i) ∙ is)
  where
    by_case : (o : Option (List Pair)) → slice_get lists i ≡ o → option_map (items_of sets) o ≡ Some (items_of sets pairs) → ⊥
    by_case None at e = cc
    by_case (Some ps) at e =
        new i (at ∙ ap (λ (x : List Pair). Some x) (items_inject sets distinct ps pairs (all i ps at) named (same_some (items_of sets ps) (items_of sets pairs) e)))

-- ---- a list that is held at a number

pub held : (sets : List (List Permission)) (lists new : List (List Pair)) (pairs : List Pair) (n : ℕ) → HoldsList lists pairs new n
    → Holds (map (items_of sets) lists) (items_of sets pairs) (map (items_of sets) new) n
held sets lists new pairs n holds = (slice_get-map (items_of sets) new n ∙ ap (λ (o : Option (List Pair)). option_map (items_of sets) o) holds.0, by_case holds.1)
  where
    by_case : (new ≡ lists) ⊎ ((new ≡ lists ++ pairs ∷ []) × IsNew lists pairs)
        → (map (items_of sets) new ≡ map (items_of sets) lists) ⊎ (map (items_of sets) new ≡ map (items_of sets) lists ++ items_of sets pairs ∷ [])
    by_case (inl e) = inl (ap (map (items_of sets)) e)
    by_case (inr more) = inr (ap (map (items_of sets)) more.0 ∙ map-append (items_of sets) lists (pairs ∷ []))

pub held_tabled : (sets : List (List Permission)) (lists new : List (List Pair)) (pairs : List Pair) (n : ℕ) → AreDistinct sets → AllNamed (length sets) lists → AreNamed (length sets) pairs
    → AreTabled (map (items_of sets) lists) → IsKept (items_of sets pairs) → HoldsList lists pairs new n → AreTabled (map (items_of sets) new)
held_tabled sets lists new pairs n distinct all named tabled kept holds = by_case holds.1
  where
    by_case : (new ≡ lists) ⊎ ((new ≡ lists ++ pairs ∷ []) × IsNew lists pairs) → AreTabled (map (items_of sets) new)
    by_case (inl e) = subst (λ (ls : List (List Pair)). AreTabled (map (items_of sets) ls)) (sym e) tabled
    by_case (inr more) =
        subst (λ (ls : List (List Pair)). AreTabled (map (items_of sets) ls)) (sym more.0)
        (subst AreTabled (sym (map-append (items_of sets) lists (pairs ∷ [])))
        (tabled_more (map (items_of sets) lists) (items_of sets pairs) tabled (new_context sets lists pairs distinct all named more.1) kept))

-- ---- contexts by number

pub context_is : (s : Stored) (n : ℕ) (c : List Item) → slice_get (contexts_of s) n ≡ Some c → context_in s n ≡ c
context_is s n c is = by_case (slice_get s.lists n) refl (sym (slice_get-map (items_of s.sets) s.lists n) ∙ is)
  where
    by_case : (o : Option (List Pair)) → slice_get s.lists n ≡ o → option_map (items_of s.sets) o ≡ Some c → context_in s n ≡ c
    by_case None at e = cc
    by_case (Some ps) at e = ap (items_of s.sets) (get_or_from_slice_get s.lists n ps [] at) ∙ same_some (items_of s.sets ps) c e

pub context_there : (s : Stored) (n : ℕ) → n < length s.lists → slice_get (contexts_of s) n ≡ Some (context_in s n)
context_there s n lt = slice_get-map (items_of s.sets) s.lists n ∙ ap (λ (o : Option (List Pair)). option_map (items_of s.sets) o) (slice_get-get_or s.lists n [] lt)

pub given_is : (s : Stored) (given : Option ℕ) (g : Option (List Item)) → IsThat (contexts_of s) given g → option_map (context_in s) given ≡ g
given_is s None None e = refl
given_is s None (Some c) e = cc
given_is s (Some n) None e = cc
given_is s (Some n) (Some c) e = ap (λ (x : List Item). Some x) (context_is s n c (same_some (slice_get (contexts_of s) n) (Some c) e))
