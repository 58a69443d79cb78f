-- What a line of a job says by itself: a key, a space and a value.
use Rattle.std.specs.Prelude.{◌≡◌, ℕ, Bool, ◌&&◌, not, ◌==◌, List, length, slice_index, nat_lt, Option, Some, None, option_map, if◌then◌else◌, codes}
use Rattle.std.specs.List.{after_first, before_first, position_or_len, slice_split}
use Rattle.std.specs.Result.{result_ok}
use Rattle.std.specs.Str.{byte, bytes_eq}
use Rattle.jground.specs.jbase.ListMaps.{each_some}
use Rattle.jdomain.specs.CodeSources.{source_of}
use Rattle.jjob.specs.declared.line.Said.{Said}
use Rattle.jjob.specs.declared.line.Said.TheVariants.{Policy, Prop, Cwd, Code, Class, Main, Schedule, Heap, Depth, Steps}
use Rattle.jjob.specs.JobLimits.{most_heap, most_depth, most_steps, greatest_pick}
use Rattle.jjob.specs.JobNumbers.{number_up_to}

-- whether a line says something: it isn't empty and doesn't begin with `#`
unfoldable pub is_kept : List ℕ → Bool
is_kept line = not (length line == 0) && not (slice_index line 0 == byte "#")

-- ---- values

-- the place of the first `=`, or the text's length
abbrev pub place_of_equals : List ℕ → ℕ
place_of_equals text = position_or_len (λ b. b == byte "=") text

-- a property: its name ends at the first `=` and isn't empty
unfoldable pub prop_said : List ℕ → Option Said
prop_said text =
    if nat_lt 0 (place_of_equals text) && nat_lt (place_of_equals text) (length text)
    then Some (Prop (before_first (λ b. b == byte "=") text) (after_first (λ b. b == byte "=") text))
    else None

-- a folder: its path begins with `/`
unfoldable pub cwd_said : List ℕ → Option Said
cwd_said path = if slice_index path 0 == byte "/" then Some (Cwd path) else None

-- a code source: the URL of a directory
unfoldable pub code_said : List ℕ → Option Said
code_said url = option_map Code (result_ok (source_of url))

-- numbers of the schedule, parted by one space each
unfoldable pub schedule_said : List ℕ → Option Said
schedule_said text = option_map Schedule (each_some (number_up_to greatest_pick) (slice_split (λ b. b == byte " ") text))

abbrev pub frames_said : Option ℕ → Option Said
frames_said = elim [ None ↦ None | Some frames ↦ if frames == 0 then None else Some (Depth frames) ]

-- the frames of a thread: at least one
unfoldable pub depth_said : List ℕ → Option Said
depth_said digits = frames_said (number_up_to most_depth digits)

-- ---- lines

-- what a key says whose value is of numbers
unfoldable pub counted : List ℕ → List ℕ → Option Said
counted key value =
    if bytes_eq key (codes "schedule") then schedule_said value
    else (if bytes_eq key (codes "heap") then option_map Heap (number_up_to most_heap value)
    else (if bytes_eq key (codes "depth") then depth_said value
    else (if bytes_eq key (codes "steps") then option_map Steps (number_up_to most_steps value) else None)))

-- what a key says with a value, if a job has the key and the value is good
unfoldable pub keyed : List ℕ → List ℕ → Option Said
keyed key value =
    if bytes_eq key (codes "policy") then Some (Policy value)
    else (if bytes_eq key (codes "prop") then prop_said value
    else (if bytes_eq key (codes "cwd") then cwd_said value
    else (if bytes_eq key (codes "code") then code_said value
    else (if bytes_eq key (codes "class") then Some (Class value)
    else (if bytes_eq key (codes "main") then Some (Main value) else counted key value)))))

-- what a line says: its key ends at the first space, and the value behind it isn't empty
unfoldable pub said_of : List ℕ → Option Said
said_of line =
    if length (after_first (λ b. b == byte " ") line) == 0 then None
    else keyed (before_first (λ b. b == byte " ") line) (after_first (λ b. b == byte " ") line)

-- a line says no property
abbrev pub SaysNoProp : List ℕ → Type 0
SaysNoProp line = (name value : List ℕ) → ¬ (said_of line ≡ Some (Prop name value))
