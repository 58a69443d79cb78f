-- The plain guard as contracts see it, and what an ask makes of it (Wallach, Appel and Felten, 2000).
use Rattle.std.specs.Prelude.{◌≡◌, ◌+◌, ◌≤◌, ℕ, Bool, List, Option, Some, length, option_map, slice_get, unwrap_or}
use Rattle.jperm.specs.declared.permission.Permission.{Permission}
use Rattle.jdomain.specs.declared.verdict.Verdict.{Verdict}
use Rattle.jctx.specs.declared.item.Item.{Item}
use Rattle.jctx.specs.Contexts.{enter, privileged, verdict}
use Rattle.jguard.specs.declared.ask.Answer.{Answer}
use Rattle.jguard.specs.declared.ask.Answer.TheVariants as answers
use Rattle.jsemantics.specs.jmachine.AccessQueries.{Ask, Checks, ChecksKept, Enters, Inherits, Privileges, Snapshots}

-- the guard: its contexts by number, and the permissions of each domain
pub record Plains : Type 0 where
  pub contexts : List (List Item)
  pub domains : List (List Permission)

-- ---- numbers

-- the context of a number
abbrev pub context_at : List (List Item) → ℕ → Option (List Item)
context_at contexts n = slice_get contexts n

-- the number that a call was given; one that was given none has the number of the context that restricts nothing
abbrev pub number_or_first : Option ℕ → ℕ
number_or_first n = unwrap_or n 0

-- a number that was given, if one was, stands for a context
abbrev pub IsThat : List (List Item) → Option ℕ → Option (List Item) → Type 0
IsThat contexts n c = option_map (context_at contexts) n ≡ option_map Some c

-- Earlier numbers keep what they stand for, and there is at most one more.
abbrev pub GrowsByOne : List (List Item) → List (List Item) → Type 0
GrowsByOne old new = ((n : ℕ) (c : List Item) → context_at old n ≡ Some c → context_at new n ≡ Some c) × (length new ≤ length old + 1)

-- A number stands, behind the call, for what a domain makes of the context of another that it enters.
abbrev pub IsEntered : List (List Item) → List (List Item) → ℕ → ℕ → ℕ → Type 0
IsEntered old new n d made = (c : List Item) → context_at old n ≡ Some c → context_at new made ≡ Some (enter c d)

-- A number stands, behind the call, for the context of a privilege that a method of a domain takes in the context of another, with what the
-- number stands for that it was given.
abbrev pub IsPrivileged : List (List Item) → List (List Item) → ℕ → Option ℕ → Option (List Permission) → ℕ → ℕ → Type 0
IsPrivileged old new d given limits n made = (c : List Item) (g : Option (List Item)) → context_at old n ≡ Some c → IsThat old given g
    → context_at new made ≡ Some (privileged d g limits c)

-- ---- answers

-- It is what the context of a number decides for a permission.
abbrev pub IsDecided : (ℕ → Permission → Bool) → Permission → List (List Item) → ℕ → Verdict → Type 0
IsDecided has asked contexts n v = (c : List Item) → context_at contexts n ≡ Some c → v ≡ verdict has asked c

-- It is a number that stands for what a domain makes of a context that it enters.
abbrev pub IsContext : List (List Item) → List (List Item) → ℕ → ℕ → Answer (Unit {0}) → Type 0
IsContext old new n d a = (made : ℕ) × (a ≡ answers.Ctx made) × IsEntered old new n d made

-- It hands on a number that stands for the context of a privilege that a method of a domain takes.
abbrev pub IsHanded : List (List Item) → List (List Item) → ℕ → Option ℕ → Option (List Permission) → ℕ → Answer (Unit {0}) → Type 0
IsHanded old new d given limits n a = (made : ℕ) × (a ≡ answers.Marked tt (Some made)) × IsPrivileged old new d given limits n made

-- ---- asks

-- What an ask makes of the guard: checks, and what is kept of a context that has a number, leave it as it is; entering a context, and
-- a privilege, make at most one context more, and the earlier numbers keep what they stand for.
abbrev pub Becomes : Plains → Ask ℕ → Plains → Type 0
Becomes old (Checks asked ctx) new = new ≡ old
Becomes old (ChecksKept asked kept) new = new ≡ old
Becomes old (Snapshots ctx) new = new ≡ old
Becomes old (Inherits ctx) new = new ≡ old
Becomes old (Enters ctx domain) new = GrowsByOne old.contexts new.contexts
Becomes old (Privileges domain ctx given limits) new = GrowsByOne old.contexts new.contexts
