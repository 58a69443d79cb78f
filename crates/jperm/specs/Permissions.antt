-- When a permission implies another, when a list of them covers one, and when two are equal (class documentation of Permission and its kinds).
use Rattle.std.specs.Prelude.{ℕ, Bool, true, false, ◌&&◌, ◌||◌, ◌==◌, List, bit_or, fold, if◌then◌else◌}
use Rattle.std.specs.List.{list_any}
use Rattle.std.specs.Str.{bytes_eq}
use Rattle.jperm.specs.declared.permission.Permission.{Permission}
use Rattle.jperm.specs.declared.permission.Permission.TheVariants.{All, Basic, Property, File, Unresolved}
use Rattle.jperm.specs.declared.permission.BasicClass.{BasicClass}
use Rattle.jperm.specs.declared.permission.BasicClass.TheVariants.{Runtime, Security}
use Rattle.jperm.specs.Actions.{has_all}
use Rattle.jperm.specs.NameCoverage.{name_covers}
use Rattle.jperm.specs.PathCoverage.{path_covers, same_path}

abbrev pub same_class : BasicClass → BasicClass → Bool
same_class Runtime Runtime = true
same_class Security Security = true
same_class _ _ = false

-- whether the first permission by itself implies the asked one
abbrev pub implies : Permission → Permission → Bool
implies All asked = true
implies (Basic class name) (Basic other wanted) = same_class class other && name_covers name wanted
implies (Property name actions) (Property wanted asked) = name_covers name wanted && has_all actions asked
implies (File path name actions) (File wanted other asked) = path_covers path wanted && has_all actions asked
implies _ _ = false

-- whether a permission is of a kind that has no actions
abbrev pub stands_alone : Permission → Bool
stands_alone = elim [ Property name actions ↦ false | File path name actions ↦ false | _ ↦ true ]

-- the actions that a permission gives on what is asked for: all of its own where it is of that kind and its name covers the asked one
abbrev pub gives : Permission → Permission → ℕ
gives (Property name actions) (Property wanted asked) = if name_covers name wanted then actions else 0
gives (File path name actions) (File wanted other asked) = if path_covers path wanted then actions else 0
gives _ _ = 0

-- the actions that the members of a list give together
abbrev pub united : List Permission → Permission → ℕ
united list asked = fold (λ all member. bit_or all (gives member asked)) 0 list

-- whether the members together have the actions that are asked for
abbrev pub together : List Permission → Permission → Bool
together list (Property wanted actions) = has_all (united list (Property wanted actions)) actions
together list (File wanted name actions) = has_all (united list (File wanted name actions)) actions
together list _ = false

-- whether a member of a kind that has no actions implies what is asked for
abbrev pub one_implies : List Permission → Permission → Bool
one_implies list asked = list_any (λ member. stands_alone member && implies member asked) list

-- whether a list of permissions covers the asked one
abbrev pub covers : List Permission → Permission → Bool
covers list asked = one_implies list asked || together list asked

-- whether a permission of a kind with actions asks for none of them
abbrev pub asks_nothing : Permission → Bool
asks_nothing (Property wanted actions) = actions == 0
asks_nothing (File wanted name actions) = actions == 0
asks_nothing _ = false

abbrev pub is_unresolved : Permission → Bool
is_unresolved (Unresolved class) = true
is_unresolved _ = false

-- whether two permissions are equal
abbrev pub equal : Permission → Permission → Bool
equal All All = true
equal (Basic class name) (Basic other wanted) = same_class class other && bytes_eq name wanted
equal (Property name actions) (Property wanted asked) = bytes_eq name wanted && (actions == asked)
equal (File path name actions) (File wanted other asked) = same_path path wanted && (bytes_eq name other && (actions == asked))
equal (Unresolved class) (Unresolved other) = bytes_eq class other
equal _ _ = false
