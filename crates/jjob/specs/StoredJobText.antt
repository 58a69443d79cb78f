-- The text of a job that is stored with other class files.
use Rattle.std.specs.Prelude.{ℕ, Bool, List, [], ◌∷◌, ◌++◌, drop, take, if◌then◌else◌, codes}
use Rattle.std.specs.Str.{bytes_eq}
use Rattle.jjob.specs.Jobs.{lines_of}

-- whether a line names a class file
abbrev pub names_class : List ℕ → Bool
names_class line = bytes_eq (take 6 line) (codes "class ")

-- the line with this path in the place of its own
abbrev pub with_first : List (List ℕ) → List ℕ → List ℕ
with_first x line = elim x [ [] ↦ line | path ∷ paths ↦ codes "class " ++ path ]

-- a line that names a class file names the first of these paths, and any other is as it was
abbrev pub line_with : List (List ℕ) → List ℕ → List ℕ
line_with paths line = if names_class line then with_first paths line else line

-- the paths that are left for the lines behind a line
abbrev pub paths_behind : List (List ℕ) → List ℕ → List (List ℕ)
paths_behind paths line = if names_class line then drop 1 paths else paths

-- lines in their order, each ended by a line feed, with these paths of class files; a last empty line counts for nothing
unfoldable pub lines_with : List (List ℕ) → List (List ℕ) → List ℕ
lines_with paths [] = []
lines_with paths ([] ∷ []) = []
lines_with paths (line ∷ lines) = line_with paths line ++ 10 ∷ lines_with (paths_behind paths line) lines

-- the text of a job with these paths in the place of those of its class files, in their order
unfoldable pub stored_job : List ℕ → List (List ℕ) → List ℕ
stored_job text paths = lines_with paths (lines_of text)
