-- What stands directly above a class that was found.
use Rattle.std.specs.Prelude.{ℕ, List, ◌++◌, Option, option_and_then}
use Rattle.std.specs.Option.{option_to_list}
use Rattle.jresolution.specs.jprogram.ProgramClasses.{Class, above, faces_of}

-- the names of its superclass and of its interfaces; none where there is no class
abbrev pub supers_of : Option Class → List (List ℕ)
supers_of o = option_to_list (option_and_then above o) ++ faces_of o
