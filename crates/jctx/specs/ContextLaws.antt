-- The laws of security contexts.
use Rattle.std.specs.Prelude.{◌≡◌, ℕ, ◌<◌, ◌≤◌, ◌==◌, true, Bool, List, [], ◌∷◌, Option, length, map}
use Rattle.std.specs.List.{All, IsDistinct, list_any}
use Rattle.jperm.specs.declared.permission.Permission.{Permission}
use Rattle.jdomain.specs.DomainStacks.{Stack, walk}
use Rattle.jctx.specs.declared.item.Item.{Item}
use Rattle.jctx.specs.ContextItems.{plain}
use Rattle.jctx.specs.Contexts.{verdict, keep, enter, privileged, along}

abbrev pub domains : List Item → List ℕ
domains c = map (λ i. i.domain) c

-- The context of a stack decides as the walk of the stack does, the denying domain included, whatever the domains have.
abbrev pub DecidesAsTheWalk : Type 0
DecidesAsTheWalk = (has : ℕ → Permission → Bool) (asked : Permission) (s : Stack) → verdict has asked (along s) ≡ walk has asked s

-- No item of a context that is made is covered by an earlier one.
abbrev pub IsKept : List Item → Type 0
IsKept c = keep c ≡ c

abbrev pub EnteredIsKept : Type 0
EnteredIsKept = (c : List Item) (d : ℕ) → IsKept (enter c d)

abbrev pub PrivilegedIsKept : Type 0
PrivilegedIsKept = (d : ℕ) (given : Option (List Item)) (limits : Option (List Permission)) (c : List Item) → IsKept (privileged d given limits c)

-- So the context of a stack is.
abbrev pub AlongIsKept : Type 0
AlongIsKept = (s : Stack) → IsKept (along s)

-- In such a context without limits all domains differ.
abbrev pub DomainsDiffer : Type 0
DomainsDiffer = (c : List Item) → IsKept c → All (λ i. i.limits ≡ []) c → IsDistinct ◌==◌ (domains c)

-- So it has no more items than there are domains.
abbrev pub IsSmall : Type 0
IsSmall = (c : List Item) (n : ℕ) → IsKept c → All (λ i. i.limits ≡ []) c → ((d : ℕ) → list_any (◌==◌ d) (domains c) ≡ true → d < n) → length c ≤ n

-- A call within the newest domain, where it has no limits, changes nothing.
abbrev pub EnterSame : Type 0
EnterSame = (c : List Item) (d : ℕ) → IsKept (plain d ∷ c) → enter (plain d ∷ c) d ≡ plain d ∷ c

-- A privilege that a method of a domain takes in the context that it entered is one in the context in which it was called: its own domain
-- adds nothing.
abbrev pub PrivilegedSame : Type 0
PrivilegedSame = (d : ℕ) (given : Option (List Item)) (limits : Option (List Permission)) (c : List Item)
    → privileged d given limits (enter c d) ≡ privileged d given limits c
