-- Where a table of the library's classes has a name, so that one class alone is compared with it.
use Rattle.std.specs.Prelude.{ℕ, ◌+◌, ◌*◌, ◌%◌, ◌==◌, List, length, get_or, Option}
use Rattle.std.specs.List.{find}
use Rattle.jlib.specs.LibraryClasses.{classes, name_of}
use Rattle.jlib.specs.declared.classes.LibClass.{LibClass}

-- by its length, and by the bytes with numbers 5 and 14 (0 past its end)
abbrev pub place : List ℕ → ℕ
place name = (9 * (length name % 128) + 14 * get_or name 5 0 + 8 * get_or name 14 0) % 128

-- the class whose name has a place
abbrev pub class_at : ℕ → Option LibClass
class_at n = find (λ c. place (name_of c) == n) classes

-- the only class that may have a name
abbrev pub candidate : List ℕ → Option LibClass
candidate name = class_at (place name)
