-- What the numbers of a table stand for: stacks, and marks of frames (class documentation of AccessController).
use Rattle.std.specs.Prelude.{ℕ, ◌≡◌, ◌<◌, ◌≤◌, ⊤, List, [], ◌∷◌, ◌++◌, Option, Some, None, length, slice_get}
use Rattle.jdomain.specs.DomainStacks.{Stack, Bottom, Entry, Mark, Unmarked, Privileged, Given, Nothing, Within}
use Rattle.jsnapshots.specs.declared.mark.InspectMark.{InspectMark}
use Rattle.jsnapshots.specs.declared.entry.KeptEntry.{KeptEntry}
use Rattle.jsnapshots.specs.declared.entry.KeptEntry.TheVariants.{Empty, Frame, Privilege}

-- what a number stands for
pub data Thing : Type 0 where
  AStack : Stack → Thing
  AMark : Mark → Thing

-- the stack that is meant, and the empty one where none is
abbrev pub the_stack : Option Thing → Stack
the_stack (Some (AStack s)) = s
the_stack _ = Bottom

-- the mark that is meant, if one is
abbrev pub the_mark : Option Thing → Mark
the_mark (Some (AMark m)) = m
the_mark _ = Unmarked

-- the stack of a number; without one it is empty
abbrev pub stack_at : List Thing → Option ℕ → Stack
stack_at things None = Bottom
stack_at things (Some n) = the_stack (slice_get things n)

-- the mark of a number; without one there is none
abbrev pub mark_at : List Thing → Option ℕ → Mark
mark_at things None = Unmarked
mark_at things (Some n) = the_mark (slice_get things n)

-- the stack that a privilege was given by its number, if any
abbrev pub given_at : List Thing → Option ℕ → Given
given_at things None = Nothing
given_at things (Some n) = Within (the_stack (slice_get things n))

-- a frame on a stack
abbrev pub framed : List Thing → InspectMark → Stack → Stack
framed things m older = Entry m.domain (mark_at things m.privileged) older

-- the frames of marks, the oldest first, on a stack
abbrev pub pushed : List Thing → List InspectMark → Stack → Stack
pushed things [] s = s
pushed things (m ∷ marks) s = pushed things marks (framed things m s)

-- the stack of these marks' frames on the inherited one
abbrev pub stack_of : List Thing → List InspectMark → Option ℕ → Stack
stack_of things marks inherited = pushed things marks (stack_at things inherited)

-- what an entry stands for, where the numbers before it stand for these things
abbrev pub thing_of : List Thing → KeptEntry → Thing
thing_of things Empty = AStack Bottom
thing_of things (Frame f) = AStack (framed things f.mark (stack_at things f.older))
thing_of things (Privilege given limits) = AMark (Privileged (given_at things given) limits)

-- what further entries stand for, behind these things
abbrev pub things_behind : List Thing → List KeptEntry → List Thing
things_behind things [] = things
things_behind things (e ∷ entries) = things_behind (things ++ thing_of things e ∷ []) entries

-- what the numbers of a table stand for
abbrev pub things : List KeptEntry → List Thing
things entries = things_behind [] entries

-- the earlier numbers keep what they stand for
abbrev pub Keeps : List KeptEntry → List KeptEntry → Type 0
Keeps old new = (length old ≤ length new) × ((n : ℕ) → n < length old → slice_get (things new) n ≡ slice_get (things old) n)

-- a number, if there is one, is that of a privilege without a given stack and limits
abbrev pub IsPlain : List KeptEntry → Option ℕ → Type 0
IsPlain entries None = ⊤
IsPlain entries (Some n) = (n < length entries) × (mark_at (things entries) (Some n) ≡ Privileged Nothing None)
