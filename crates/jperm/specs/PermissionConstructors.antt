-- The permission that a class, a name and actions make (class documentation of the constructors of permissions).
use Rattle.std.specs.Prelude.{◌≡◌, ℕ, List, [], ◌∷◌, Option, Some, None, Result, Ok, Err}
use Rattle.std.specs.Option.{ok_or}
use Rattle.jground.specs.jbase.MemoryFailures.{◌>>=◌}
use Rattle.jperm.specs.declared.action.Action.{Action}
use Rattle.jperm.specs.declared.making.PermClass.{PermClass}
use Rattle.jperm.specs.declared.making.PermClass.TheVariants as classes
use Rattle.jperm.specs.declared.making.PermError.{PermError}
use Rattle.jperm.specs.declared.making.PermError.TheVariants.{NoName, EmptyName, BadActions, Memory}
use Rattle.jperm.specs.declared.permission.Permission.{Permission}
use Rattle.jperm.specs.declared.permission.Permission.TheVariants.{All, Basic, Property, File}
use Rattle.jperm.specs.declared.permission.BasicClass.TheVariants.{Runtime, Security}
use Rattle.jperm.specs.Actions.{actions_of, property_actions, file_actions}
use Rattle.jperm.specs.WrittenPaths.{path_of}

-- a name that is there and isn't empty
abbrev pub filled : Option (List ℕ) → Result (List ℕ) PermError
filled None = Err NoName
filled (Some []) = Err EmptyName
filled (Some (u ∷ us)) = Ok (u ∷ us)

-- the set of actions of a kind that a text gives, where there is a text
abbrev pub wanted : List Action → Option (List ℕ) → Result ℕ PermError
wanted kind = elim [ None ↦ Err BadActions | Some text ↦ ok_or (actions_of kind text) BadActions ]

-- a permission on a property; the name is looked at before the actions
abbrev pub made_property : Option (List ℕ) → Option (List ℕ) → Result Permission PermError
made_property name actions = filled name >>= λ text. wanted property_actions actions >>= λ set. Ok (Property text set)

-- a permission on a file, whose name is read in a directory; the name may be empty, and is looked at before the actions
abbrev pub made_file : Option (List ℕ) → Option (List ℕ) → List ℕ → Result Permission PermError
made_file name actions directory = ok_or name NoName >>= λ text. wanted file_actions actions >>= λ set. Ok (File (path_of directory text) text set)

-- the permission that a class makes
abbrev pub made : PermClass → Option (List ℕ) → Option (List ℕ) → List ℕ → Result Permission PermError
made classes.All name actions directory = Ok All
made classes.Runtime name actions directory = filled name >>= λ text. Ok (Basic Runtime text)
made classes.Security name actions directory = filled name >>= λ text. Ok (Basic Security text)
made classes.Property name actions directory = made_property name actions
made classes.File name actions directory = made_file name actions directory

-- the call answers what the definition gives, unless memory runs out
abbrev pub IsMade : Result Permission PermError → Result Permission PermError → Type 0
IsMade (Err Memory) value = Unit {0}
IsMade result value = result ≡ value
