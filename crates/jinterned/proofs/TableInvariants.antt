-- The table behind its calls.
use Rattle.std.proofs.Common.{◌≡◌, ◌∙◌, ◌⊎◌, inl, inr, ℕ, zero, suc, ◌<◌, List, [], ◌∷◌, ◌++◌, length, map, Option, Some, None, option_map, refl, sym, ap, ap₂, subst, arith}
use Rattle.std.specs.Prelude.{IfSome, slice_get}
use Rattle.std.proofs.lemmas.List.{length-map}
use Rattle.jperm.specs.declared.permission.Permission.{Permission}
use Rattle.jctx.specs.declared.item.Item.{Item}
use Rattle.jctx.specs.Contexts.{enter, privileged}
use Rattle.jctx.specs.ContextLaws.{IsKept, EnteredIsKept, PrivilegedIsKept}
use Rattle.jinterned.specs.declared.entered.Entered.{Entered}
use Rattle.jinterned.specs.declared.pairs.Pair.{Pair}
use Rattle.jinterned.specs.PairLists.{Extends}
use Rattle.jinterned.specs.DomainEntryCache.{AreRight}
use Rattle.jinterned.specs.ContextStores.{Stored, AllNamed, AreNamed, HoldsList, context_in, contexts_of, items_of}
use Rattle.jinterned.specs.InternedContexts.{AreDistinct, AreTabled, Holds, HoldsEntered, HoldsPrivileged}
use Rattle.jinterned.proofs.LimitNumbers.{context_is, contexts_more, given_is, held, held_tabled}
use Rattle.jinterned.proofs.CacheInvariants.{right_more}

-- a table that was opened
first_alone : AreTabled ([] ∷ [])
first_alone = (refl, distinct, kept)
  where
    same : (a b : List Item) → Some a ≡ Some b → a ≡ b
    same a b e = cc

    distinct : (i j : ℕ) (c : List Item) → slice_get {X = List Item} ([] ∷ []) i ≡ Some c → slice_get {X = List Item} ([] ∷ []) j ≡ Some c → i ≡ j
    distinct zero zero c a b = refl
    distinct zero (suc j) c a b = cc
    distinct (suc i) j c a b = cc

    kept : (i : ℕ) (c : List Item) → slice_get {X = List Item} ([] ∷ []) i ≡ Some c → IsKept c
    kept zero c is = subst IsKept (same [] c is) refl
    kept (suc i) c is = cc

pub opened : (s : Stored) → s ≡ record { sets = [] ∷ []; lists = [] ∷ [] } → AreTabled (contexts_of s)
opened s is = subst (λ (x : Stored). AreTabled (contexts_of x)) (sym is) first_alone

-- a number of the table is one of the store
pub number_there : (s : Stored) (now : List (List Item)) (n : ℕ) → contexts_of s ≡ now → n < length now → n < length s.lists
number_there s now n is lt = omega (arith, lt, ap length is, length-map s.lists (items_of s.sets))

pub given_there : (s : Stored) (now : List (List Item)) (given : Option ℕ) → contexts_of s ≡ now → IfSome given (λ g. g < length now) → IfSome given (λ g. g < length s.lists)
given_there s now (Some g) is lt = number_there s now g is lt
given_there s now None is lt = tt

pub contexts_same : (s t : Stored) → t.sets ≡ s.sets → t.lists ≡ s.lists → contexts_of t ≡ contexts_of s
contexts_same s t sets lists = ap₂ (λ (ss : List (List Permission)) (ls : List (List Pair)). map (items_of ss) ls) sets lists

pub contexts_longer : (s t : Stored) → AllNamed (length s.sets) s.lists → Extends s.sets t.sets → t.lists ≡ s.lists → contexts_of t ≡ contexts_of s
contexts_longer s t named more lists = ap (λ (ls : List (List Pair)). map (items_of t.sets) ls) lists ∙ contexts_more s.sets t.sets s.lists more named

-- what holds of the table's contexts and of what is remembered
abbrev pub IsRightTable : List (List Item) → List (Option (Entered × ℕ)) → Type 0
IsRightTable contexts known = AreTabled contexts × AreRight contexts known

pub same_table : (old new : List (List Item)) (known : List (Option (Entered × ℕ))) → new ≡ old → IsRightTable old known → IsRightTable new known
same_table old new known same right = subst (λ (cs : List (List Item)). IsRightTable cs known) (sym same) right

right_held : (old new : List (List Item)) (c : List Item) (n : ℕ) (known : List (Option (Entered × ℕ))) → Holds old c new n → AreRight old known → AreRight new known
right_held old new c n known holds right = by_case holds.1
  where
    by_case : (new ≡ old) ⊎ (new ≡ old ++ c ∷ []) → AreRight new known
    by_case (inl e) = subst (λ (cs : List (List Item)). AreRight cs known) (sym e) right
    by_case (inr e) = subst (λ (cs : List (List Item)). AreRight cs known) (sym e) (right_more old c known right)

module _ (s t : Stored) (pairs : List Pair) (n : ℕ) (known : List (Option (Entered × ℕ)))
    (distinct : AreDistinct s.sets) (all : AllNamed (length s.sets) s.lists) (named : AreNamed (length s.sets) pairs)
    (sets : t.sets ≡ s.sets) (holds : HoldsList s.lists pairs t.lists n) where
  pub holds_here : Holds (contexts_of s) (items_of s.sets pairs) (contexts_of t) n
  holds_here =
      subst (λ (ss : List (List Permission)). Holds (contexts_of s) (items_of s.sets pairs) (map (items_of ss) t.lists) n) (sym sets)
      (held s.sets s.lists t.lists pairs n holds)

  pub table_here : IsRightTable (contexts_of s) known → IsKept (items_of s.sets pairs) → IsRightTable (contexts_of t) known
  table_here right kept = (
    subst (λ (ss : List (List Permission)). AreTabled (map (items_of ss) t.lists)) (sym sets)
        (held_tabled s.sets s.lists t.lists pairs n distinct all named right.0 kept holds),
    right_held (contexts_of s) (contexts_of t) (items_of s.sets pairs) n known holds_here right.1,
  )

  pub entered_here : (now : List (List Item)) (c d : ℕ) → contexts_of s ≡ now → items_of s.sets pairs ≡ enter (context_in s c) d → HoldsEntered now (contexts_of t) c d n
  entered_here now c d is made items at =
      let old : context_in s c ≡ items = context_is s c items (ap (λ (cs : List (List Item)). slice_get cs c) is ∙ at) in
      subst (λ (x : List Item). Holds now x (contexts_of t) n) (made ∙ ap (λ (x : List Item). enter x d) old)
      (subst (λ (cs : List (List Item)). Holds cs (items_of s.sets pairs) (contexts_of t) n) is holds_here)

pub kept_entered : EnteredIsKept → (made c : List Item) (d : ℕ) → made ≡ enter c d → IsKept made
kept_entered law made c d is = subst IsKept (sym is) (law c d)

pub kept_privileged : PrivilegedIsKept → (made : List Item) (d : ℕ) (given : Option (List Item)) (limits : Option (List Permission)) (c : List Item)
    → made ≡ privileged d given limits c → IsKept made
kept_privileged law made d given limits c is = subst IsKept (sym is) (law d given limits c)

-- a privilege whose limits may be new
pub privileged_here : (s t u : Stored) (pairs : List Pair) (n : ℕ) (now : List (List Item)) (d c : ℕ) (given : Option ℕ) (limits : Option (List Permission))
    → contexts_of s ≡ now → contexts_of t ≡ contexts_of s → Holds (contexts_of t) (items_of t.sets pairs) (contexts_of u) n
    → items_of t.sets pairs ≡ privileged d (option_map (context_in s) given) limits (context_in s c)
    → HoldsPrivileged now (contexts_of u) d given limits c n
privileged_here s t u pairs n now d c given limits is longer holds made items g at that =
    let old : context_in s c ≡ items = context_is s c items (ap (λ (cs : List (List Item)). slice_get cs c) is ∙ at) in
    let those = given_is s given g (subst (λ (cs : List (List Item)). option_map (slice_get cs) given ≡ option_map Some g) (sym is) that) in
    subst (λ (x : List Item). Holds now x (contexts_of u) n)
    (made ∙ ap₂ (λ (x : Option (List Item)) (y : List Item). privileged d x limits y) those old)
    (subst (λ (cs : List (List Item)). Holds cs (items_of t.sets pairs) (contexts_of u) n) (longer ∙ is) holds)
