-- Where a walk ends, by one frame.
use Rattle.std.specs.Prelude.{ℕ, ◌+◌, ◌≡◌, ◌<◌, ⊤, Bool, true, false, List, Option, Some, None, is_none, unwrap_or, length, slice_get, if◌then◌else◌}
use Rattle.jperm.specs.declared.permission.Permission.{Permission}
use Rattle.jdomain.specs.declared.verdict.Verdict.{Verdict}
use Rattle.jdomain.specs.declared.verdict.Verdict.TheVariants.{Granted, Denied}
use Rattle.jdomain.specs.DomainStacks.{Stack, Bottom, Given, Mark, Unmarked, Privileged, some_implies, walk, walk_given}
use Rattle.jsnapshots.specs.declared.entry.KeptEntry.{KeptEntry}
use Rattle.jsnapshots.specs.declared.entry.KeptEntry.TheVariants.{Privilege}
use Rattle.jsnapshots.specs.declared.entry.KeptFrame.{KeptFrame}
use Rattle.jsnapshots.specs.SnapshotMeanings.{Thing, framed, given_at, stack_at, things}

-- what a privilege settles whose given stack has that verdict; where it is nothing, the walk goes on
abbrev pub settled : Verdict → Option (List Permission) → Permission → Option Verdict
settled (Denied domain) limits asked = Some (Denied domain)
settled Granted None asked = Some Granted
settled Granted (Some limits) asked = if some_implies limits asked then Some Granted else None

-- what a mark settles
abbrev pub settled_mark : (ℕ → Permission → Bool) → Permission → Mark → Option Verdict
settled_mark has asked Unmarked = None
settled_mark has asked (Privileged given limits) = settled (walk_given has asked given) limits asked

-- what a frame settles
abbrev pub settled_frame : (ℕ → Permission → Bool) → Permission → ℕ → Mark → Option Verdict
settled_frame has asked domain mark = if has domain asked then settled_mark has asked mark else Some (Denied domain)

-- the domain, if there is one, has the permission
abbrev pub Grants : (ℕ → Permission → Bool) → Permission → Option ℕ → Type 0
Grants has asked None = ⊤
Grants has asked (Some domain) = has domain asked ≡ true

-- the verdicts of the stacks of the first numbers
abbrev pub Knows : (ℕ → Permission → Bool) → Permission → List Thing → List Verdict → Type 0
Knows has asked things verdicts =
    (k : ℕ) → k < length verdicts → slice_get verdicts k ≡ Some (walk has asked (stack_at things (Some k)))

-- the verdict of a number's stack by these; without a number nothing is denied
abbrev pub known : List Verdict → Option ℕ → Verdict
known verdicts None = Granted
known verdicts (Some k) = unwrap_or (slice_get verdicts k) Granted

-- the stack of a frame, and without one the empty stack
abbrev pub stack_from : List Thing → Option KeptFrame → Stack
stack_from things None = Bottom
stack_from things (Some f) = framed things f.mark (stack_at things f.older)

-- the number of the stack that a privilege was given, where the entry is a privilege
abbrev pub given_of : Option KeptEntry → Option ℕ
given_of (Some (Privilege given limits)) = given
given_of _ = None

-- an entry is a privilege without limits
abbrev pub is_last : Option KeptEntry → Bool
is_last (Some (Privilege given limits)) = is_none limits
is_last _ = false

-- the stack that a privilege was given, by the number of the privilege
abbrev pub given_in : List KeptEntry → ℕ → Given
given_in entries k = given_at (things entries) (given_of (slice_get entries k))

-- how far a number lies behind the beginning of the table
abbrev pub place : Option ℕ → ℕ
place None = 0
place (Some n) = n + 1
