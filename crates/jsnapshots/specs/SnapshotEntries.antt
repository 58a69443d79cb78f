-- The entries of a table: each speaks of earlier numbers alone.
use Rattle.std.specs.Prelude.{ℕ, ◌≡◌, ◌<◌, ⊤, List, ◌++◌, Option, Some, None, slice_get}
use Rattle.std.specs.List.{All}
use Rattle.jsnapshots.specs.declared.mark.InspectMark.{InspectMark}
use Rattle.jsnapshots.specs.declared.entry.KeptEntry.{KeptEntry}
use Rattle.jsnapshots.specs.declared.entry.KeptEntry.TheVariants.{Empty, Frame, Privilege}

-- a number, if there is one, is one of the first n
abbrev pub Below : ℕ → Option ℕ → Type 0
Below n None = ⊤
Below n (Some k) = k < n

-- so are the numbers of all privileges
abbrev pub AllBelow : ℕ → List InspectMark → Type 0
AllBelow n marks = All (λ m. Below n m.privileged) marks

-- an entry speaks of the first n numbers alone
abbrev pub EntryBelow : ℕ → KeptEntry → Type 0
EntryBelow n Empty = ⊤
EntryBelow n (Frame f) = Below n f.mark.privileged × Below n f.older
EntryBelow n (Privilege given limits) = Below n given

-- each entry speaks of earlier ones alone
abbrev pub IsBack : List KeptEntry → Type 0
IsBack entries = (k : ℕ) (e : KeptEntry) → slice_get entries k ≡ Some e → EntryBelow k e

-- there are more entries, behind the old ones
abbrev pub Extends : List KeptEntry → List KeptEntry → Type 0
Extends old new = (more : List KeptEntry) × (new ≡ old ++ more)
