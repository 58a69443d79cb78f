-- Actions, sets of them, and the texts that name them (class documentation of PropertyPermission and FilePermission).
use Rattle.std.specs.Prelude.{ℕ, Bool, ◌==◌, ◌&&◌, not, List, [], ◌∷◌, Option, reverse, fold, bit_and, bit_or, if◌then◌else◌, codes}
use Rattle.std.specs.List.{find}
use Rattle.std.specs.Option.{option_map}
use Rattle.std.specs.Str.{byte}
use Rattle.std.specs.Char.{is_ascii_whitespace}
use Rattle.jground.specs.jbase.ListMaps.{each_some}
use Rattle.jground.specs.jtext.Texts.{same_ignoring_case}
use Rattle.jperm.specs.TextPieces.{pieces}
use Rattle.jperm.specs.declared.action.Action.{Action}
use Rattle.jperm.specs.declared.action.Action.TheVariants.{Read, Write, Execute, Delete, Readlink}

-- the actions on a property, in canonical order
abbrev pub property_actions : List Action
property_actions = Read ∷ Write ∷ []

-- the actions on a file, in canonical order
abbrev pub file_actions : List Action
file_actions = Read ∷ Write ∷ Execute ∷ Delete ∷ Readlink ∷ []

-- the bit that stands for an action in a set of actions
abbrev pub bit : Action → ℕ
bit = elim [ Read ↦ 1 | Write ↦ 2 | Execute ↦ 4 | Delete ↦ 8 | Readlink ↦ 16 ]

-- the word that names an action
abbrev pub word : Action → List ℕ
word = elim [ Read ↦ codes "read" | Write ↦ codes "write" | Execute ↦ codes "execute" | Delete ↦ codes "delete" | Readlink ↦ codes "readlink" ]

-- whether a set of actions has all of another one
abbrev pub has_all : ℕ → ℕ → Bool
has_all actions asked = bit_and actions asked == asked

-- the set of some actions
abbrev pub set_of : List Action → ℕ
set_of actions = fold (λ all action. bit_or all (bit action)) 0 actions

-- whether a set has some actions of a kind, and no other bits
abbrev pub has_some_of : List Action → ℕ → Bool
has_some_of kind set = not (set == 0) && has_all (set_of kind) set

-- what a text has behind its blanks at the front; blanks are space, tab, line feed, form feed and carriage return
unfoldable pub behind_blanks : List ℕ → List ℕ
behind_blanks [] = []
behind_blanks (u ∷ us) = if is_ascii_whitespace u then behind_blanks us else u ∷ us

-- a text without the blanks round it
abbrev pub trimmed : List ℕ → List ℕ
trimmed text = reverse (behind_blanks (reverse (behind_blanks text)))

-- the action of a kind that a word names, where ASCII letter case doesn't count
abbrev pub named : List Action → List ℕ → Option Action
named kind text = find (λ action. same_ignoring_case text (word action)) kind

-- the set of the actions that a text names, split at commas, where each piece names an action of the kind
abbrev pub actions_of : List Action → List ℕ → Option ℕ
actions_of kind text = option_map set_of (each_some (λ piece. named kind (trimmed piece)) (pieces (byte ",") text))
