-- The names of properties in order, by which the first one that comes again is found.
use Rattle.std.specs.Prelude.{◌≡◌, ℕ, ◌+◌, ◌*◌, ◌%◌, ◌^◌, ◌==◌, ◌≤◌, ◌&&◌, Bool, true, false, List, [], ◌∷◌, ◌++◌, length, map, take, nat_le, nat_lt}
use Rattle.std.specs.Prelude.{Option, Some, None, option_map, Result, IfOk, if◌then◌else◌}
use Rattle.std.specs.List.{count_by, filter_map, list_any}
use Rattle.std.specs.Option.{option_to_list}
use Rattle.std.specs.Str.{bytes_eq}
use Rattle.std.specs.declared.alloc.AllocError.{AllocError}
use denote.Ref.{Bor}
use Rattle.jground.specs.jbase.FirstFaults.{fault_if, first_along, or_else}
use Rattle.jjob.specs.declared.line.Said.{Said}
use Rattle.jjob.specs.JobLines.{is_kept, said_of}
use Rattle.jjob.specs.ProofNames.{name_in}

-- ---- names again

abbrev pub name_said : Option Said → Option (List ℕ)
name_said None = None
name_said (Some said) = name_in said

-- the name of the property that a line says, where it says one
unfoldable pub name_of : List ℕ → Option (List ℕ)
name_of line = if is_kept line then name_said (said_of line) else None

abbrev pub is_named : List (List ℕ) → Option (List ℕ) → Bool
is_named before None = false
is_named before (Some name) = list_any (bytes_eq name) (filter_map name_of before)

-- whether a line says a property whose name one of the lines before it says
abbrev pub names_again : List (List ℕ) → List ℕ → Bool
names_again before line = is_named before (name_of line)

-- the number of the first line that does; lines are counted from 1
unfoldable pub first_again : List (List ℕ) → Option ℕ
first_again lines = first_along (λ i line. fault_if (names_again (take i lines) line) (i + 1)) 0 lines

-- ---- names by numbers

-- a number by which most names are told apart
unfoldable pub digest_from : ℕ → List ℕ → ℕ
digest_from sum [] = sum
digest_from sum (b ∷ name) = digest_from ((sum * 257 % 2 ^ 64 + b) % 2 ^ 64) name

abbrev pub digest : List ℕ → ℕ
digest name = digest_from 0 name

-- the digests of the names that lines say
abbrev pub digests_of : List (List ℕ) → List ℕ
digests_of lines = map digest (filter_map name_of lines)

-- what is answered of all lines up to one that has the number: the first number at which a name comes again, else this one
abbrev pub AgainTo : List (List ℕ) → ℕ → List ℕ → Result ℕ AllocError → Type 0
AgainTo all number digests result = (lines left : List (List ℕ)) → lines ++ left ≡ all → number ≡ length lines → digests ≡ digests_of lines
    → IfOk result (λ n. or_else (first_again lines) (Some number) ≡ Some n)

-- no number stands twice
abbrev pub NoneTwice : List ℕ → Type 0
NoneTwice numbers = (x : ℕ) → count_by (λ y. y == x) numbers ≤ 1

unfoldable pub differ_from : ℕ → List ℕ → Bool
differ_from last [] = true
differ_from last (next ∷ more) = if last == next then false else differ_from next more

-- whether no number is equal to the one behind it
abbrev pub neighbours_differ : List ℕ → Bool
neighbours_differ [] = true
neighbours_differ (first ∷ more) = differ_from first more

-- the lesser of a number that there may be, and another one
abbrev pub lesser : Option ℕ → ℕ → ℕ
lesser None number = number
lesser (Some other) number = if nat_le other number then other else number

-- ---- names in order

-- what is noted of a line: the digest of its property's name, the name and the line's number
abbrev pub note_of : ℕ → List ℕ → List (ℕ × List ℕ × ℕ)
note_of number line = option_to_list (option_map (λ name. (digest name, name, number)) (name_of line))

-- what is noted of lines, of which the first has the number
unfoldable pub notes : ℕ → List (List ℕ) → List (ℕ × List ℕ × ℕ)
notes number [] = []
notes number (line ∷ more) = note_of number line ++ notes (number + 1) more

-- a note whose name is borrowed from the text
abbrev pub plain : ℕ × Bor (List ℕ) × ℕ → ℕ × List ℕ × ℕ
plain note = (note.0, note.1.now, note.2)

-- whether a name stands again on a later line
abbrev pub is_again : ℕ × List ℕ × ℕ → ℕ × List ℕ × ℕ → Bool
is_again last next = (last.0 == next.0 && bytes_eq last.1 next.1) && nat_lt last.2 next.2

abbrev pub least_with : Option ℕ → ℕ → Option ℕ
least_with None number = Some number
least_with (Some least) number = if nat_le least number then Some least else Some number

abbrev pub with_next : Option ℕ → ℕ × List ℕ × ℕ → ℕ × List ℕ × ℕ → Option ℕ
with_next least last next = if is_again last next then least_with least next.2 else least

-- the least number so far and of the names that stand behind an equal one with a lesser number
unfoldable pub again_from : Option ℕ → ℕ × List ℕ × ℕ → List (ℕ × List ℕ × ℕ) → Option ℕ
again_from least last [] = least
again_from least last (next ∷ more) = again_from (with_next least last next) next more

-- the least number of such names
abbrev pub least_again : List (ℕ × List ℕ × ℕ) → Option ℕ
least_again [] = None
least_again (first ∷ more) = again_from None first more
