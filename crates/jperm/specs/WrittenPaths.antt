-- The path that a written name gives (class documentation of FilePermission; by text alone, no link is followed).
use Rattle.std.specs.Prelude.{ℕ, Bool, ◌-◌, ◌||◌, List, [], ◌∷◌, ◌++◌, length, take, fold, nat_eq, if◌then◌else◌, codes}
use Rattle.std.specs.List.{ends_with, flat_map}
use Rattle.std.specs.Str.{bytes_eq}
use Rattle.jperm.specs.declared.path.FilePath.{FilePath}
use Rattle.jperm.specs.declared.path.FilePath.TheVariants.{AllFiles, Below, Children, Exact}
use Rattle.jperm.specs.AbsolutePaths.{is_absolute}
use Rattle.jperm.specs.NameCoverage.{but_last}
use Rattle.jperm.specs.PathCoverage.{slash}
use Rattle.jperm.specs.TextPieces.{pieces}

-- the names that lead from the root behind one more: nothing and `.` lead nowhere, `..` leads up and at the root nowhere, and any other name
-- leads down
abbrev pub next : List (List ℕ) → List ℕ → List (List ℕ)
next names name =
    if bytes_eq name [] || bytes_eq name (codes ".")
    then names
    else (if bytes_eq name (codes "..") then take (length names - 1) names else names ++ name ∷ [])

-- the names that lead from the root to a path
abbrev pub names_of : List ℕ → List (List ℕ)
names_of path = fold next [] (pieces slash path)

-- the path of some names: each behind a slash, and the root is a slash alone
abbrev pub path_of_names : List (List ℕ) → List ℕ
path_of_names = elim [ [] ↦ codes "/" | name ∷ names ↦ flat_map (λ n. slash ∷ n) (name ∷ names) ]

-- the path that a name gives where it is read in a directory: behind it where the name doesn't begin with a slash, and then without `.`, `..`
-- and needless slashes
abbrev pub absolute : List ℕ → List ℕ → List ℕ
absolute directory name = path_of_names (names_of (if is_absolute name then name else directory ++ (codes "/" ++ name)))

-- whether a name is a sign, or ends in a slash and the sign
abbrev pub has_sign : List ℕ → List ℕ → Bool
has_sign sign name = bytes_eq name sign || ends_with nat_eq name (codes "/" ++ sign)

-- the path of a written name; its final `*` or `-` is set aside before
abbrev pub path_of : List ℕ → List ℕ → FilePath
path_of directory name =
    if bytes_eq name (codes "<<ALL FILES>>")
    then AllFiles
    else (if has_sign (codes "-") name
    then Below (absolute directory (but_last name))
    else (if has_sign (codes "*") name then Children (absolute directory (but_last name)) else Exact (absolute directory name)))
