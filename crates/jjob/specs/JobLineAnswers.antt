-- What a reader of a job answers to the lines.
use Rattle.std.specs.Prelude.{◌≡◌, ℕ, Bool, true, false, ◌&&◌, ◌+◌, List, [], ◌∷◌, ◌++◌, length, Option, Some, None, Result, Ok, Err}
use Rattle.std.specs.declared.alloc.AllocError.{AllocError}
use Rattle.jjob.specs.declared.job.JobError.{JobError}
use Rattle.jjob.specs.declared.job.JobError.TheVariants.{Line, Memory}
use Rattle.jjob.specs.declared.line.Said.{Said}
use Rattle.jjob.specs.declared.line.Said.TheVariants.{Prop}
use Rattle.jjob.specs.declared.told.Told.{Told}
use Rattle.jjob.specs.JobLines.{is_kept, said_of}
use Rattle.jjob.specs.Jobs.{clashes, first_bad, said_by}
use Rattle.jjob.specs.JobReaderState.{IsTold}

-- ---- lines that are bad whatever the names of properties are

-- whether what is said clashes with what was said before, where it is no property
abbrev pub clashes_otherwise : List Said → Said → Bool
clashes_otherwise before (Prop name value) = false
clashes_otherwise before said = clashes before said

abbrev pub is_bad_otherwise : List Said → Option Said → Bool
is_bad_otherwise before None = true
is_bad_otherwise before (Some said) = clashes_otherwise before said

-- whether a line is bad behind the lines before it for another reason than a property's name that comes again
abbrev pub bad_otherwise : List (List ℕ) → List ℕ → Bool
bad_otherwise before line = is_kept line && is_bad_otherwise (said_by before) (said_of line)

-- ---- lines that are skipped

-- the first of the lines is skipped, and the others are these
abbrev pub IsSkipped : List (List ℕ) → List (List ℕ) → Type 0
IsSkipped lines more = (line : List ℕ) × (is_kept line ≡ false) × (lines ≡ line ∷ more)

-- none of the lines is kept
abbrev pub AreSkipped : List (List ℕ) → Type 0
AreSkipped [] = Unit {0}
AreSkipped (line ∷ more) = (is_kept line ≡ false) × AreSkipped more

-- behind some lines that are skipped these are left; where the first of all has a number, the first of these has the other one
pub record Skips (lines : List (List ℕ)) (number : ℕ) (left : List (List ℕ)) (at : ℕ) : Type 0 where
  pub front : List (List ℕ)
  pub whole : front ++ left ≡ lines
  pub skipped : AreSkipped front
  pub count : at ≡ number + length front

-- ---- answers

-- the answer to one more line says whether it is bad otherwise; where it isn't, what it says is told too
abbrev pub TakesLine : List (List ℕ) → List ℕ → Told → Result Bool AllocError → Type 0
TakesLine lines line told (Ok true) = (bad_otherwise lines line ≡ false) × IsTold (said_by (lines ++ line ∷ [])) told
TakesLine lines line told (Ok false) = bad_otherwise lines line ≡ true
TakesLine lines line told (Err e) = Unit {0}

-- the first bad one of all lines; where there is none, what they say is told
abbrev pub TellsAll : List (List ℕ) → Told → Option ℕ → Type 0
TellsAll lines told (Some number) = first_bad lines ≡ Some number
TellsAll lines told None = (first_bad lines ≡ None) × IsTold (said_by lines) told

-- the answer to all lines is the first bad one, or what they say
abbrev pub TakesAll : List (List ℕ) → Result Told JobError → Type 0
TakesAll lines (Ok told) = (first_bad lines ≡ None) × IsTold (said_by lines) told
TakesAll lines (Err (Line number)) = first_bad lines ≡ Some number
TakesAll lines (Err Memory) = Unit {0}
