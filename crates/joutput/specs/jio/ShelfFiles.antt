-- The files of a shelf, as a list of paths and bytes.
use Rattle.std.specs.Prelude.{◌≡◌, ℕ, List, [], ◌∷◌, length, Option, Some, None, nat_le, if◌then◌else◌}
use Rattle.std.specs.Str.{bytes_eq}
use Rattle.std.specs.Option.{option_map}

pub record File : Type 0 where
  pub path : List ℕ
  pub bytes : List ℕ

-- The bytes of the first file at the path.
abbrev pub file_at : List File → List ℕ → Option (List ℕ)
file_at [] path = None
file_at (file ∷ files) path = if bytes_eq file.path path then Some file.bytes else file_at files path

-- No two files have one path.
abbrev pub PathsDiffer : List File → Type 0
PathsDiffer [] = Unit {0}
PathsDiffer (file ∷ files) = (file_at files file.path ≡ None) × PathsDiffer files

-- The most bytes of a file that a shelf reads: 64 MiB.
abbrev pub most_read : ℕ
most_read = 67108864

-- What a read of the path gives.
abbrev pub readable : List File → List ℕ → Option (List ℕ)
readable files path = elim (file_at files path) [ None ↦ None | Some bytes ↦ if nat_le (length bytes) most_read then Some bytes else None ]

-- What is told gives these bytes at the path.
abbrev pub Told : Option (List File) → List ℕ → List ℕ → Type 0
Told None path bytes = Unit {0}
Told (Some files) path bytes = readable files path ≡ Some bytes

-- What is told has nothing to read at the path.
abbrev pub Lacks : Option (List File) → List ℕ → Type 0
Lacks None path = ⊥
Lacks (Some files) path = readable files path ≡ None

-- The files with these bytes at the path, in the place of the first file there or behind all others.
unfoldable pub stored : List ℕ → List ℕ → List File → List File
stored path bytes [] = record { path = path; bytes = bytes } ∷ []
stored path bytes (file ∷ files) = if bytes_eq file.path path then record { path = path; bytes = bytes } ∷ files else file ∷ stored path bytes files

-- What is told of one path: nothing, or that it has no file, or the file's bytes.
abbrev pub told_at : Option (List File) → List ℕ → Option (Option (List ℕ))
told_at known path = option_map (λ files. file_at files path) known

-- What is told of every other path is the same.
abbrev pub SameElsewhere : List ℕ → Option (List File) → Option (List File) → Type 0
SameElsewhere path before after = (other : List ℕ) → (other ≡ path → ⊥) → told_at after other ≡ told_at before other

-- How many reads and how many writes of a shelf failed.
pub record ShelfFaults : Type 0 where
  pub reads : ℕ
  pub writes : ℕ
