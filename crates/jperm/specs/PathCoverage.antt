-- Paths that cover others (class documentation of FilePermission).
use Rattle.std.specs.Prelude.{ℕ, Bool, true, false, not, ◌&&◌, ◌||◌, List, ◌++◌, length, drop, nat_eq, if◌then◌else◌, codes}
use Rattle.std.specs.List.{list_any}
use Rattle.std.specs.Str.{bytes_eq, byte}
use Rattle.jperm.specs.declared.path.FilePath.{FilePath}
use Rattle.jperm.specs.declared.path.FilePath.TheVariants.{AllFiles, Below, Children, Exact}
use Rattle.jperm.specs.NameCoverage.{goes_on}

-- the slash that parts the names of a path
abbrev pub slash : ℕ
slash = byte "/"

-- what stands before the names in a directory
abbrev pub inside : List ℕ → List ℕ
inside directory = if bytes_eq directory (codes "/") then directory else directory ++ codes "/"

-- whether a path lies below a directory
abbrev pub is_below : List ℕ → List ℕ → Bool
is_below directory path = goes_on (inside directory) path

-- whether a path lies in a directory, with no other directory between them
abbrev pub is_in : List ℕ → List ℕ → Bool
is_in directory path = is_below directory path && not (list_any (λ u. nat_eq u slash) (drop (length (inside directory)) path))

-- whether a path covers an asked one
abbrev pub path_covers : FilePath → FilePath → Bool
path_covers AllFiles asked = true
path_covers (Below directory) (Exact path) = is_below directory path
path_covers (Below directory) (Children other) = bytes_eq directory other || is_below directory other
path_covers (Below directory) (Below other) = bytes_eq directory other || is_below directory other
path_covers (Children directory) (Exact path) = is_in directory path
path_covers (Children directory) (Children other) = bytes_eq directory other
path_covers (Exact path) (Exact other) = bytes_eq path other
path_covers _ _ = false

-- whether two paths are equal
abbrev pub same_path : FilePath → FilePath → Bool
same_path AllFiles AllFiles = true
same_path (Below directory) (Below other) = bytes_eq directory other
same_path (Children directory) (Children other) = bytes_eq directory other
same_path (Exact path) (Exact other) = bytes_eq path other
same_path _ _ = false
