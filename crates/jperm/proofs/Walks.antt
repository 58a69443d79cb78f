-- Going along the pieces of a text, as a loop does.
use Rattle.std.proofs.Common.{◌≡◌, ℕ, ◌+◌, ◌-◌, ◌<◌, ◌≤◌, Bool, true, false, cond, if◌then◌else◌, not, List, [], ◌∷◌, ◌++◌, length, take, drop, get_or, position, fold, nat_eq, nat_lt, Option, Some, None, refl, sym, ap, ◌∙◌, arith, length-drop, bit_or, eq-eqb, codes}
use Rattle.std.specs.List.{onto_first, position_or_len}
use Rattle.std.specs.Option.{option_map}
use Rattle.std.proofs.Math.Seq.{take-length}
use Rattle.std.proofs.lemmas.Bool.{ltb-true, ltb-false}
use Rattle.std.proofs.lemmas.List.Splits.{slice_split_first, slice_split_none, length-slice_split}
use Rattle.std.proofs.lemmas.List.Sums.{prefix_len_passes, fold-append}
use Rattle.jground.specs.jbase.ListMaps.{each_some, put_front}
use Rattle.jperm.specs.declared.action.Action.{Action}
use Rattle.jperm.specs.Actions.{bit}
use Rattle.jperm.specs.PathCoverage.{slash}
use Rattle.jperm.specs.TextPieces.{pieces, pieces_if}
use Rattle.jperm.specs.AbsolutePaths.{is_absolute}
use Rattle.jperm.specs.WrittenPaths.{next, names_of, path_of_names}

-- how much is left to go along, where what is left may be there
abbrev pub left_of : Option (List ℕ) → ℕ
left_of None = 0
left_of (Some text) = length text + 1

-- ---- the first piece

-- what stands before the first such unit
abbrev before : ℕ → List ℕ → ℕ
before at text = position_or_len (λ u. nat_eq u at) text

place_is : (b : Bool) (first place : ℕ) → cond b (Some first) None ≡ Some place → (b ≡ true) × (first ≡ place)
place_is true first place e = (refl, cc)
place_is false first place e = cc

no_place : (b : Bool) (first : ℕ) → cond b (Some first) None ≡ None → b ≡ false
no_place true first e = cc
no_place false first e = refl

all_of : (n : ℕ) (text : List ℕ) → take (length text - n) (drop n text) ≡ drop n text
all_of n text = ap (λ (k : ℕ). take k (drop n text)) (sym (length-drop n text)) ∙ take-length (drop n text)

-- the first piece ends where the unit stands
pub piece_at : (at : ℕ) (text : List ℕ) (place : ℕ) → position (λ u. nat_eq u at) text ≡ Some place
    → pieces at text ≡ take place text ∷ pieces at (take (length text - (place + 1)) (drop (place + 1) text))
piece_at at text place e =
    let is = place_is (nat_lt (before at text) (length text)) (before at text) place e in
    let first : pieces at text ≡ take (before at text) text ∷ pieces at (drop (before at text + 1) text) = slice_split_first (λ u. nat_eq u at) text 0 (ltb-true (before at text) (length text) is.0) in
    first ∙ ap (λ (n : ℕ). take n text ∷ pieces at (drop (n + 1) text)) is.1 ∙ ap (λ (rest : List ℕ). take place text ∷ pieces at rest) (sym (all_of (place + 1) text))

not_true : (b : Bool) → not b ≡ true → b ≡ false
not_true true e = cc
not_true false e = refl

-- without the unit, the text is the one piece
pub piece_whole : (at : ℕ) (text : List ℕ) → position (λ u. nat_eq u at) text ≡ None → pieces at text ≡ text ∷ []
piece_whole at text e =
    let past : length text ≤ before at text = ltb-false (before at text) (length text) (no_place (nat_lt (before at text) (length text)) (before at text) e) in
    slice_split_none (λ u. nat_eq u at) text
    (λ k d lt. not_true (nat_eq (get_or text k d) at) (prefix_len_passes (λ u. not (nat_eq u at)) text k d (omega arith)))

pub ruleset first_pieces = (piece_at, piece_whole)

-- ---- a text behind another

onto-append : {X : Type 0} (x : X) (parts more : List (List X)) → 0 < length parts → onto_first x (parts ++ more) ≡ onto_first x parts ++ more
onto-append x [] more h = absurd (omega arith)
onto-append x (part ∷ parts) more h = refl

pub some_parts : (at : ℕ) (text : List ℕ) → 0 < length (pieces at text)
some_parts at text = omega (arith, length-slice_split (λ u. nat_eq u at) text)

split_at_unit : (at u : ℕ) (front text : List ℕ) (b : Bool) → nat_eq u at ≡ b → pieces at (front ++ at ∷ text) ≡ pieces at front ++ pieces at text → cond b ([] ∷ pieces at (front ++ at ∷ text)) (onto_first u (pieces at (front ++ at ∷ text))) ≡ cond b ([] ∷ pieces at front) (onto_first u (pieces at front)) ++ pieces at text
split_at_unit at u front text true is h = ap (λ (parts : List (List ℕ)). [] ∷ parts) h
split_at_unit at u front text false is h = ap (λ (parts : List (List ℕ)). onto_first u parts) h ∙ onto-append u (pieces at front) (pieces at text) (some_parts at front)

pieces-append : (at : ℕ) (front text : List ℕ) → pieces at (front ++ at ∷ text) ≡ pieces at front ++ pieces at text
pieces-append at [] text = rw (eq-eqb at at refl) refl
pieces-append at (u ∷ front) text = split_at_unit at u front text (nat_eq u at) refl (pieces-append at front text)

-- a path that goes on from the names of a directory is the path behind the directory
pub goes_from : (b : Bool) (directory name : List ℕ) → fold next (if b then [] else names_of directory) (pieces slash name) ≡ names_of (if b then name else directory ++ (codes "/" ++ name))
goes_from true directory name = refl
goes_from false directory name = sym (ap (λ (parts : List (List ℕ)). fold next [] parts) (pieces-append slash directory name) ∙ fold-append next [] (pieces slash directory) (pieces slash name))

-- the path of some names begins at the root
pub begins_at_root : (names : List (List ℕ)) (path : List ℕ) → path ≡ path_of_names names → is_absolute path ≡ true
begins_at_root [] path is = ap is_absolute is
begins_at_root (name ∷ names) path is = ap is_absolute is

-- ---- the actions of a text

-- the set that has some actions already, and those that are left, where each piece that is left names one
abbrev pub joined_with : ℕ → Option (List Action) → Option ℕ
joined_with actions left = option_map (fold (λ all action. bit_or all (bit action)) actions) left

pub joined_next : (actions : ℕ) (action : Action) (left : Option (List Action)) → joined_with actions (put_front (Some action) left) ≡ joined_with (bit_or actions (bit action)) left
joined_next actions action (Some more) = refl
joined_next actions action None = refl

pub action_more : (at : ℕ) (f : List ℕ → Option Action) (actions : ℕ) (left : Option (List ℕ)) (rest piece : List ℕ) (behind : Option (List ℕ)) (action : Action) (n : ℕ) (total : Option ℕ) → left ≡ Some rest → pieces at rest ≡ piece ∷ pieces_if at behind → f piece ≡ Some action → n ≡ bit action → joined_with actions (each_some f (pieces_if at left)) ≡ total
    → joined_with (bit_or actions n) (each_some f (pieces_if at behind)) ≡ total
unfolding each_some
action_more at f actions left rest piece behind action n total is parts one bits so_far =
    let step : joined_with actions (each_some f (pieces_if at left)) ≡ joined_with (bit_or actions n) (each_some f (pieces_if at behind)) = rw (is, parts, one, bits) (joined_next actions action (each_some f (pieces_if at behind))) in
    sym step ∙ so_far

pub action_none : (at : ℕ) (f : List ℕ → Option Action) (actions : ℕ) (left : Option (List ℕ)) (rest piece : List ℕ) (behind : Option (List ℕ)) (total : Option ℕ) → left ≡ Some rest → pieces at rest ≡ piece ∷ pieces_if at behind → f piece ≡ None → joined_with actions (each_some f (pieces_if at left)) ≡ total → total ≡ None
unfolding each_some
action_none at f actions left rest piece behind total is parts one so_far =
    let stop : joined_with actions (each_some f (pieces_if at left)) ≡ None = rw (is, parts, one) refl in
    sym so_far ∙ stop

pub actions_end : (at : ℕ) (f : List ℕ → Option Action) (actions : ℕ) (left : Option (List ℕ)) (total : Option ℕ) → left ≡ None → joined_with actions (each_some f (pieces_if at left)) ≡ total → Some actions ≡ total
unfolding each_some
actions_end at f actions left total is so_far =
    let done : joined_with actions (each_some f (pieces_if at left)) ≡ Some actions = rw is refl in
    sym done ∙ so_far
