-- What the inspecting guard's numbers and marks stand for: stacks, and what frames carry.
use Rattle.std.specs.Prelude.{◌≡◌, ◌<◌, ℕ, List, Option, Some, None, length, option_map, nat_lt, if◌then◌else◌}
use Rattle.jperm.specs.declared.permission.Permission.{Permission}
use Rattle.jdomain.specs.DomainStacks.{Stack, Mark, Unmarked}
use Rattle.jsnapshots.specs.declared.entry.KeptEntry.{KeptEntry}
use Rattle.jsnapshots.specs.declared.mark.InspectMark.{InspectMark}
use Rattle.jsnapshots.specs.SnapshotMeanings.{Keeps, mark_at, stack_at, things}
use Rattle.jsemantics.specs.jmachine.AccessQueries.{Ask, Checks, ChecksKept, Enters, Inherits, Privileges, Snapshots}
use Rattle.jguard.specs.declared.ask.Answer.{Answer}
use Rattle.jguard.specs.declared.ask.Answer.TheVariants as answers
use Rattle.jsemantics.specs.jrules.InspectingRules.{Carried}

-- the guard: the entries of its table, and the permissions of each domain
pub record Inspects : Type 0 where
  pub entries : List KeptEntry
  pub domains : List (List Permission)

-- the stack of a number that was given
abbrev pub kept_at : List KeptEntry → ℕ → Option Stack
kept_at entries n = if nat_lt n (length entries) then Some (stack_at (things entries) (Some n)) else None

-- the mark of a privilege's number that was given; without one a frame isn't marked
abbrev pub privilege_at : List KeptEntry → Option ℕ → Option Mark
privilege_at entries None = Some Unmarked
privilege_at entries (Some n) = if nat_lt n (length entries) then Some (mark_at (things entries) (Some n)) else None

abbrev pub with_domain : ℕ → Mark → Carried
with_domain d mark = record { domain = d; mark = mark }

-- what a frame's mark stands for
abbrev pub entry_at : List KeptEntry → InspectMark → Option Carried
entry_at entries m = option_map (with_domain m.domain) (privilege_at entries m.privileged)

-- the mark of a method of a domain
abbrev pub unprivileged : ℕ → InspectMark
unprivileged d = record { domain = d; privileged = None }

-- the domain of the newest frame, whose mark stands last
abbrev pub newest_domain : Option InspectMark → ℕ
newest_domain None = 0
newest_domain (Some m) = m.domain

-- ---- answers

-- an answer is a number that stands for this stack
abbrev pub IsStack : List KeptEntry → Stack → Answer InspectMark → Type 0
IsStack entries s a = (n : ℕ) × (a ≡ answers.Kept n) × (n < length entries) × (stack_at (things entries) (Some n) ≡ s)

-- it marks a frame of a domain so
abbrev pub IsMarked : List KeptEntry → ℕ → Mark → Answer InspectMark → Type 0
IsMarked entries d mark a =
    (n : ℕ) × (a ≡ answers.Marked (record { domain = d; privileged = Some n }) None) × (n < length entries)
    × (mark_at (things entries) (Some n) ≡ mark)

-- ---- asks

-- What an ask makes of the guard: where nothing has to be kept it stays as it is, and otherwise the earlier numbers keep what they stand for.
abbrev pub Becomes : Inspects → Ask ℕ → Inspects → Type 0
Becomes old (Checks asked ctx) new = new ≡ old
Becomes old (ChecksKept asked kept) new = new ≡ old
Becomes old (Enters ctx domain) new = new ≡ old
Becomes old (Snapshots ctx) new = Keeps old.entries new.entries
Becomes old (Inherits ctx) new = Keeps old.entries new.entries
Becomes old (Privileges domain ctx given limits) new = Keeps old.entries new.entries
