-- How the answers of the two machines correspond, where the context of the running method is that of the thread's stack.
use Rattle.std.specs.Prelude.{◌≡◌, ℕ, Bool, List, [], ◌∷◌, Option, Some, None, option_map}
use Rattle.jperm.specs.declared.permission.Permission.{Permission}
use Rattle.jdomain.specs.DomainStacks.{Stack}
use Rattle.jctx.specs.declared.item.Item.{Item}
use Rattle.jctx.specs.Contexts.{along}
use Rattle.jsemantics.specs.jrules.InspectingRules as inspecting
use Rattle.jsemantics.specs.jrules.InspectingRules.{Carried, stack_of}
use Rattle.jsemantics.specs.ProofNames.{unmarked}
use Rattle.jsemantics.specs.jrules.PlainRules as plain

-- the context of a thread's stack
abbrev pub context_of : List Carried → Option Stack → List Item
context_of entries below = along (stack_of entries below)

-- A check is decided alike, the denying domain included, whatever context the plain machine's thread was started with,
abbrev pub ChecksAlike : Type 0
ChecksAlike = (has : ℕ → Permission → Bool) (asked : Permission) (entries : List Carried) (below : Option Stack)
    (none : List (Unit {0})) (inherited : Option (List Item))
    → (inspecting.rules has).check asked None entries below ≡ (plain.rules has).check asked (Some (context_of entries below)) none inherited

-- and so is one of what is held.
abbrev pub HeldChecksAlike : Type 0
HeldChecksAlike = (has : ℕ → Permission → Bool) (asked : Permission) (s : Stack)
    → (inspecting.rules has).check_kept asked s ≡ (plain.rules has).check_kept asked (along s)

-- What getContext and a Thread keep corresponds, likewise.
pub record KeepsAlike : Type 0 where
  pub snapshot : (has : ℕ → Permission → Bool) (entries : List Carried) (below : Option Stack) (none : List (Unit {0}))
      (inherited : Option (List Item))
      → along ((inspecting.rules has).snapshot None entries below) ≡ (plain.rules has).snapshot (Some (context_of entries below)) none inherited
  pub inherit : (has : ℕ → Permission → Bool) (entries : List Carried) (below : Option Stack) (none : List (Unit {0}))
      (inherited : Option (List Item))
      → along ((inspecting.rules has).inherit None entries below) ≡ (plain.rules has).inherit (Some (context_of entries below)) none inherited

-- A method of a domain that is called enters the context of its caller,
abbrev pub CallsAlike : Type 0
CallsAlike = (has : ℕ → Permission → Bool) (entries : List Carried) (below : Option Stack) (d : ℕ)
    → context_of ((inspecting.rules has).entry_of d ∷ entries) below ≡ (plain.rules has).enter (context_of entries below) d

-- and the first one of a thread that which the thread inherited.
abbrev pub BeginsAlike : Type 0
BeginsAlike = (has : ℕ → Permission → Bool) (s : Stack) (d : ℕ)
    → context_of ((inspecting.rules has).entry_of d ∷ []) (Some s) ≡ (plain.rules has).enter (along s) d

-- the stack within a privilege of the newest frame, which is marked
abbrev pub within : (ℕ → Permission → Bool) → Option Stack → Option (List Permission) → List Carried → Option Stack → Stack
within has given limits [] below = stack_of [] below
within has given limits (e ∷ entries) below =
    stack_of (((inspecting.rules has).privileged None None given limits (e ∷ entries)).caller ∷ entries) below

-- a privilege is handed the context of the method that takes it where there are limits alone
abbrev pub handed_with : Option (List Permission) → List Item → Option (List Item)
handed_with None c = None
handed_with (Some limits) c = Some c

-- The action of a privilege is given the context of the stack in which the method that takes it is marked.
abbrev pub PrivilegesAlike : Type 0
PrivilegesAlike = (has : ℕ → Permission → Bool) (entries : List Carried) (below : Option Stack) (d : ℕ)
    (given : Option Stack) (limits : Option (List Permission)) (none : List (Unit {0}))
    → let here = unmarked d ∷ entries in
    ((plain.rules has).privileged (Some d) (handed_with limits (context_of here below)) (option_map along given) limits none).context
    ≡ Some (along (within has given limits here below))
