-- Stacks of domains with marks, and the walk that decides a permission on one (class documentation of AccessController).
use Rattle.std.specs.Prelude.{ℕ, Bool, List, Option, Some, None, if◌then◌else◌}
use Rattle.std.specs.List.{list_any}
use Rattle.jperm.specs.declared.permission.Permission.{Permission}
use Rattle.jperm.specs.Permissions.{implies}
use Rattle.jdomain.specs.declared.verdict.Verdict.{Verdict}
use Rattle.jdomain.specs.declared.verdict.Verdict.TheVariants.{Granted, Denied}

mutual
  -- the entries of the frames, newest first
  pub data Stack : Type 0 where
    Bottom : Stack
    Entry : (domain : ℕ) → Mark → Stack → Stack

  -- what a frame is marked with: nothing, or a privilege with a given stack and limits
  pub data Mark : Type 0 where
    Unmarked : Mark
    Privileged : Given → Option (List Permission) → Mark

  -- the stack that a privilege was given, if any
  pub data Given : Type 0 where
    Nothing : Given
    Within : Stack → Given

-- the first denial of two verdicts
abbrev pub first_denial : Verdict → Verdict → Verdict
first_denial x rest = elim x [ Denied domain ↦ Denied domain | Granted ↦ rest ]

-- whether one of the permissions by itself implies the asked one
unfoldable pub some_implies : List Permission → Permission → Bool
some_implies limits asked = list_any (λ q. implies q asked) limits

-- what a privilege makes of the verdict behind it: without limits nothing of it is asked
abbrev pub past_limits : Option (List Permission) → Permission → Verdict → Verdict
past_limits None asked rest = Granted
past_limits (Some limits) asked rest = if some_implies limits asked then Granted else rest

abbrev mutual
  -- The walk of a stack for a permission, where `has` tells which domain has which permission.
  pub walk : (ℕ → Permission → Bool) → Permission → Stack → Verdict
  walk has asked Bottom = Granted
  walk has asked (Entry domain mark older) = if has domain asked then walk_mark has asked mark (walk has asked older) else Denied domain

  pub walk_mark : (ℕ → Permission → Bool) → Permission → Mark → Verdict → Verdict
  walk_mark has asked Unmarked rest = rest
  walk_mark has asked (Privileged given limits) rest = first_denial (walk_given has asked given) (past_limits limits asked rest)

  pub walk_given : (ℕ → Permission → Bool) → Permission → Given → Verdict
  walk_given has asked Nothing = Granted
  walk_given has asked (Within stack) = walk has asked stack
