-- The job that a job file is: what each of its lines may say behind the others, and what all of them give.
use Rattle.std.specs.Prelude.{◌≡◌, ℕ, ◌+◌, Bool, true, ◌&&◌, ◌||◌, ◌==◌, if◌then◌else◌, Option, Some, None, unwrap_or, Result, Ok, Err, codes}
use Rattle.std.specs.Prelude.{List, [], ◌∷◌, take, length, filter, nat_le, nat_lt}
use Rattle.std.specs.List.{count_by, filter_map, flat_map, list_any, slice_split}
use Rattle.std.specs.Option.{is_some}
use Rattle.std.specs.Str.{bytes_eq, is_utf8}
use Rattle.std.specs.Str.Lossy.{utf8_valid_len}
use Rattle.url.specs.Parts.{Parts}
use Rattle.jground.specs.jbase.FirstFaults.{fault_if, first_along, first_some}
use Rattle.jground.specs.jtext.Texts.{units_of_text}
use Rattle.jjob.specs.declared.job.Job.{Job}
use Rattle.jjob.specs.declared.job.JobError.{JobError}
use Rattle.jjob.specs.declared.job.JobError.TheVariants.{Line, Memory}
use Rattle.jjob.specs.declared.job.JobSource.{JobSource}
use Rattle.jjob.specs.JobLimits.{default_heap, default_depth, default_steps, most_codes, most_classes, most_picks}
use Rattle.jjob.specs.declared.line.Said.{Said}
use Rattle.jjob.specs.declared.line.Said.TheVariants.{Policy, Prop, Cwd, Code, Class, Main, Schedule, Heap, Depth, Steps}
use Rattle.jjob.specs.JobLines.{is_kept, said_of}

-- ---- what each thing says for a field

abbrev pub policy_in : Said → Option (List ℕ)
policy_in = elim [ Policy path ↦ Some path | _ ↦ None ]

abbrev pub prop_in : Said → Option (List ℕ × List ℕ)
prop_in = elim [ Prop name value ↦ Some (units_of_text name, units_of_text value) | _ ↦ None ]

abbrev pub cwd_in : Said → Option (List ℕ)
cwd_in = elim [ Cwd path ↦ Some (units_of_text path) | _ ↦ None ]

abbrev pub code_in : Said → Option Parts
code_in = elim [ Code source ↦ Some source | _ ↦ None ]

abbrev pub class_in : Said → Option (List ℕ)
class_in = elim [ Class path ↦ Some path | _ ↦ None ]

abbrev pub main_in : Said → Option (List ℕ)
main_in = elim [ Main name ↦ Some (units_of_text name) | _ ↦ None ]

abbrev pub picks_in : Said → List ℕ
picks_in = elim [ Schedule numbers ↦ numbers | _ ↦ [] ]

abbrev pub heap_in : Said → Option ℕ
heap_in = elim [ Heap cells ↦ Some cells | _ ↦ None ]

abbrev pub depth_in : Said → Option ℕ
depth_in = elim [ Depth frames ↦ Some frames | _ ↦ None ]

abbrev pub steps_in : Said → Option ℕ
steps_in = elim [ Steps steps ↦ Some steps | _ ↦ None ]

-- ---- what may not be said behind others

-- whether something was said that gives a value
abbrev pub has : {X : Type 0} → (Said → Option X) → List Said → Bool
has field before = is_some (first_some field before)

-- how much was said that gives a value
abbrev pub count_of : {X : Type 0} → (Said → Option X) → List Said → ℕ
count_of field before = length (filter_map field before)

-- a key again that stands at most once, a property's name again, a class file before any code source, and more than a job may have
unfoldable pub clashes : List Said → Said → Bool
clashes before (Policy path) = has policy_in before
clashes before (Prop name value) = list_any (bytes_eq name) (filter_map (elim [ Prop name value ↦ Some name | _ ↦ None ]) before)
clashes before (Cwd path) = has cwd_in before
clashes before (Code source) = nat_le most_codes (count_of code_in before)
clashes before (Class path) = count_of code_in before == 0 || nat_le most_classes (count_of class_in before)
clashes before (Main name) = has main_in before
clashes before (Schedule numbers) = nat_lt most_picks (length (flat_map picks_in before) + length numbers)
clashes before (Heap cells) = has heap_in before
clashes before (Depth frames) = has depth_in before
clashes before (Steps steps) = has steps_in before

-- ---- the first bad line

-- what lines say, where those that are skipped and those that say nothing don't count
unfoldable pub said_by : List (List ℕ) → List Said
said_by lines = filter_map said_of (filter is_kept lines)

-- whether a line is bad behind the lines before it
abbrev pub bad_behind : List (List ℕ) → List ℕ → Bool
bad_behind before line = is_kept line && (elim (said_of line) [ None ↦ true | Some said ↦ clashes (said_by before) said ])

-- the number of the first bad line; lines are counted from 1, those that are skipped too
unfoldable pub first_bad : List (List ℕ) → Option ℕ
first_bad lines = first_along (λ i line. fault_if (bad_behind (take i lines) line) (i + 1)) 0 lines

-- ---- what all lines give

-- the class files that are named before the next code source
unfoldable pub classes_here : List Said → List (List ℕ)
classes_here [] = []
classes_here (Code source ∷ more) = []
classes_here (Class path ∷ more) = path ∷ classes_here more
classes_here (other ∷ more) = classes_here more

-- the code sources in order, each with the class files that are named behind it
unfoldable pub sources_of : List Said → List JobSource
sources_of [] = []
sources_of (Code source ∷ more) = record { source = source; classes = classes_here more } ∷ sources_of more
sources_of (other ∷ more) = sources_of more

-- the job of all that its lines say, if they name a main class
unfoldable pub job_of : List Said → List ℕ → Job
job_of said main = record {
  policy = first_some policy_in said;
  props = filter_map prop_in said;
  cwd = unwrap_or (first_some cwd_in said) (codes "/");
  sources = sources_of said;
  main = main;
  schedule = flat_map picks_in said;
  heap = unwrap_or (first_some heap_in said) default_heap;
  depth = unwrap_or (first_some depth_in said) default_depth;
  steps = unwrap_or (first_some steps_in said) default_steps;
}

-- ---- the job of a file

-- the lines of a text; a line feed ends a line, and nothing else does
abbrev pub lines_of : List ℕ → List (List ℕ)
lines_of text = slice_split (λ b. b == 10) text

-- how many lines there are; a last empty one counts for nothing
abbrev pub number_of_lines : List (List ℕ) → ℕ
number_of_lines [] = 0
number_of_lines ([] ∷ []) = 0
number_of_lines (line ∷ more) = 1 + number_of_lines more

-- the number of the line in which a place of a text stands
abbrev pub line_at : List ℕ → ℕ → ℕ
line_at text place = count_by (λ b. b == 10) (take place text) + 1

-- the job of lines none of which is bad; without a main class it ends too early
abbrev pub with_main : List (List ℕ) → Option (List ℕ) → Result Job ℕ
with_main lines = elim [ None ↦ Err (number_of_lines lines + 1) | Some main ↦ Ok (job_of (said_by lines) main) ]

abbrev pub unless_bad : List (List ℕ) → Option ℕ → Result Job ℕ
unless_bad lines = elim [ Some number ↦ Err number | None ↦ with_main lines (first_some main_in (said_by lines)) ]

-- the job of a text's lines, or the number of the first bad one
unfoldable pub job_in : List ℕ → Result Job ℕ
job_in text = unless_bad (lines_of text) (first_bad (lines_of text))

-- the job that the bytes of a job file are, or the number of the line that is at fault; bytes that aren't UTF-8 are so at the first bad one
unfoldable pub job : List ℕ → Result Job ℕ
job bytes = if is_utf8 bytes then job_in bytes else Err (line_at bytes (utf8_valid_len bytes))

-- the call answers what the definition gives, unless memory runs out
abbrev pub JobGives : Result Job JobError → Result Job ℕ → Type 0
JobGives (Ok job) value = value ≡ Ok job
JobGives (Err (Line line)) value = value ≡ Err line
JobGives (Err Memory) value = Unit {0}
