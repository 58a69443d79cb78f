-- Contexts by number, each once.
use Rattle.std.specs.Prelude.{◌≡◌, ℕ, suc, if◌then◌else◌, Bool, true, false, ◌&&◌, ◌==◌, not, List, [], ◌∷◌, ◌++◌, length, Option, Some, filter, option_map, slice_get}
use Rattle.std.proofs.Common.{◌⊎◌, ◌≢◌}
use Rattle.jperm.specs.declared.permission.Permission.{Permission}
use Rattle.jperm.specs.Permissions.{equal}
use Rattle.jctx.specs.declared.item.Item.{Item}
use Rattle.jctx.specs.Contexts.{enter, privileged}
use Rattle.jctx.specs.ContextLaws.{IsKept}
use Rattle.jinterned.specs.declared.pairs.Pair.{Pair}

-- Behind a call the table holds a context at a number; it is as it was before, or one longer by that context.
abbrev pub Holds : List (List Item) → List Item → List (List Item) → ℕ → Type 0
Holds old c new n = (slice_get new n ≡ Some c) × ((new ≡ old) ⊎ (new ≡ old ++ c ∷ []))

-- So it does with what a domain makes of a context that it enters,
abbrev pub HoldsEntered : List (List Item) → List (List Item) → ℕ → ℕ → ℕ → Type 0
HoldsEntered old new n d made = (c : List Item) → slice_get old n ≡ Some c → Holds old (enter c d) new made

-- a number that was given, if one was, stands for a context
abbrev pub IsThat : List (List Item) → Option ℕ → Option (List Item) → Type 0
IsThat contexts n c = option_map (slice_get contexts) n ≡ option_map Some c

-- and with the context of a privilege.
abbrev pub HoldsPrivileged : List (List Item) → List (List Item) → ℕ → Option ℕ → Option (List Permission) → ℕ → ℕ → Type 0
HoldsPrivileged old new d given limits n made = (c : List Item) (g : Option (List Item)) → slice_get old n ≡ Some c → IsThat old given g
    → Holds old (privileged d g limits c) new made

-- No two are equal.
abbrev pub AreDistinct : {T : Type 0} → List T → Type 0
AreDistinct {T} xs = (i j : ℕ) (x : T) → slice_get xs i ≡ Some x → slice_get xs j ≡ Some x → i ≡ j

-- None is this one.
abbrev pub IsNew : {T : Type 0} → List T → T → Type 0
IsNew xs x = (i : ℕ) → slice_get xs i ≢ Some x

-- No item of a context is covered by an earlier one.
abbrev pub AreKept : List (List Item) → Type 0
AreKept contexts = (i : ℕ) (c : List Item) → slice_get contexts i ≡ Some c → IsKept c

-- The table begins with the context that restricts nothing, and holds each once.
abbrev pub AreTabled : List (List Item) → Type 0
AreTabled contexts = (slice_get contexts 0 ≡ Some []) × AreDistinct contexts × AreKept contexts

-- the items of other domains
abbrev pub others : ℕ → List Item → List Item
others d c = filter (λ i. not (d == i.domain)) c

-- how many pairs stand before the first of a domain
abbrev pub before : ℕ → List Pair → ℕ
before d [] = 0
before d (p ∷ ps) = if d == p.domain then 0 else suc (before d ps)

-- a context begins with a domain without limits
abbrev pub begins_with : List Item → ℕ → Bool
begins_with [] d = false
begins_with (i ∷ c) d = (i.domain == d) && (length i.limits == 0)

-- ---- whether limits or pairs are equal

-- a test holds of each two that stand at one place
abbrev pub pairwise : {T : Type 0} → (T → T → Bool) → List T → List T → Bool
pairwise test [] ys = true
pairwise test (x ∷ xs) [] = true
pairwise test (x ∷ xs) (y ∷ ys) = test x y && pairwise test xs ys

-- and they are as long
abbrev pub alike : {T : Type 0} → (T → T → Bool) → List T → List T → Bool
alike test xs ys = (length xs == length ys) && pairwise test xs ys

abbrev pub same_limits : List Permission → List Permission → Bool
same_limits ps qs = alike equal ps qs

abbrev pub same_pair : Pair → Pair → Bool
same_pair p q = (p.limits == q.limits) && (p.domain == q.domain)
