-- How the names of the library's classes begin.
use Rattle.std.specs.Prelude.{ℕ, Bool, ◌||◌, List, take, codes}
use Rattle.std.specs.Str.{bytes_eq}

-- in a package of java, or in sps
abbrev pub begins_so : List ℕ → Bool
begins_so name = bytes_eq (take 5 name) (codes "java/") || bytes_eq (take 4 name) (codes "sps/")
