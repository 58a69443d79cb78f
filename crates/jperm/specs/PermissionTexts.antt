-- The text of a permission (class documentation of Permission's toString), whole and in parts.
use Rattle.std.specs.Prelude.{ℕ, Bool, false, not, ◌||◌, ◌==◌, List, length, [], ◌∷◌, ◌++◌, Option, Some, None, filter, if◌then◌else◌, codes}
use Rattle.std.specs.List.{join_by, find}
use Rattle.std.specs.Option.{is_some, option_to_list, unwrap_or}
use Rattle.std.specs.Str.{bytes_eq}
use Rattle.jperm.specs.declared.action.Action.{Action}
use Rattle.jperm.specs.declared.making.PermClass.{PermClass}
use Rattle.jperm.specs.declared.making.PermClass.TheVariants as classes
use Rattle.jperm.specs.declared.permission.Permission.{Permission}
use Rattle.jperm.specs.declared.permission.Permission.TheVariants.{All, Basic, Property, File, Unresolved}
use Rattle.jperm.specs.declared.permission.BasicClass.TheVariants.{Runtime, Security}
use Rattle.jperm.specs.Actions.{bit, word, has_all, file_actions}

-- the name of a class
abbrev pub text_of_class : PermClass → List ℕ
text_of_class classes.All = codes "java.security.AllPermission"
text_of_class classes.Runtime = codes "java.lang.RuntimePermission"
text_of_class classes.Security = codes "java.security.SecurityPermission"
text_of_class classes.Property = codes "java.util.PropertyPermission"
text_of_class classes.File = codes "java.io.FilePermission"

-- the class that has a name
abbrev pub class_named : List ℕ → Option PermClass
class_named name = find (λ class. bytes_eq name (text_of_class class))
    (classes.All ∷ classes.Runtime ∷ classes.Security ∷ classes.Property ∷ classes.File ∷ [])

-- the name of a permission's class
abbrev pub class_name : Permission → List ℕ
class_name All = text_of_class classes.All
class_name (Basic Runtime text) = text_of_class classes.Runtime
class_name (Basic Security text) = text_of_class classes.Security
class_name (Property text actions) = text_of_class classes.Property
class_name (File path text actions) = text_of_class classes.File
class_name (Unresolved class) = class

-- the name of a permission, as it was written
abbrev pub name_of : Permission → Option (List ℕ)
name_of = elim [ All ↦ Some (codes "<all permissions>") | Basic c t ↦ Some t | Property t s ↦ Some t | File p t s ↦ Some t | Unresolved c ↦ None ]

-- the words of the actions in a set, in canonical order, joined by commas
abbrev pub words_of : ℕ → List ℕ
words_of set = join_by word (codes ",") (filter (λ action. has_all set (bit action)) file_actions)

-- the actions of a permission, empty where it has none
abbrev pub actions_text : Permission → List ℕ
actions_text = elim [ All ↦ codes "<all actions>" | Property text set ↦ words_of set | File path text set ↦ words_of set | _ ↦ [] ]

abbrev pub quoted : List ℕ → List ℕ
quoted text = codes "\"" ++ (text ++ codes "\"")

-- a text where it isn't empty
abbrev pub unless_empty : List ℕ → List (List ℕ)
unless_empty = elim [ [] ↦ [] | u ∷ us ↦ (u ∷ us) ∷ [] ]

-- the text of a permission: its class, its name and its actions, each where it has one, in quotes
abbrev pub text_of : Permission → List ℕ
text_of p = codes "(" ++ (join_by quoted (codes " ") (class_name p ∷ (option_to_list (name_of p) ++ unless_empty (actions_text p))) ++ codes ")")

-- ---- the same text in parts

-- the words of the actions that are there, each in a part of its own, and behind a comma where an earlier one is there
abbrev pub word_parts : (Action → Bool) → Bool → List Action → List (List ℕ)
word_parts there behind [] = []
word_parts there behind (action ∷ more) =
    (if there action then (if behind then codes "," ++ word action else word action) else []) ∷ word_parts there (behind || there action) more

-- the actions of a permission in five parts
abbrev pub action_parts : Permission → List (List ℕ)
action_parts All = codes "<all actions>" ∷ [] ∷ [] ∷ [] ∷ [] ∷ []
action_parts (Property text set) = word_parts (λ action. has_all set (bit action)) false file_actions
action_parts (File path text set) = word_parts (λ action. has_all set (bit action)) false file_actions
action_parts _ = [] ∷ [] ∷ [] ∷ [] ∷ [] ∷ []

-- what ends one quoted text and begins the next, where there is a next
abbrev pub between : Bool → List ℕ
between more = if more then codes "\" \"" else []

-- the text of a permission in eleven parts, of which some may be empty
abbrev pub parts : Permission → List (List ℕ)
parts p =
    codes "(\"" ∷ class_name p ∷ between (is_some (name_of p)) ∷ unwrap_or (name_of p) [] ∷ between (not (length (actions_text p) == 0)) ∷ (action_parts p ++ codes "\")" ∷ [])
