-- The parts of a permission's text, one behind the other.
use Rattle.std.proofs.Common.{◌≡◌, ℕ, suc, ◌+◌, ◌<◌, ◌==◌, Bool, true, false, not, ◌||◌, cond, List, [], ◌∷◌, ◌++◌, length, drop, get_or, filter, refl, sym, ap, ◌∙◌, arith, append_assoc, codes, add-one, drop-cons}
use Rattle.std.proofs.lemmas.Bool.Decides.{nat_tests}
use Rattle.std.specs.List.{list_any, join_by, flat_map}
use Rattle.std.proofs.lemmas.List.{append-nil}
use Rattle.std.proofs.lemmas.Grind.{flat_map-append}
use Rattle.jperm.specs.declared.action.Action.{Action}
use Rattle.jperm.specs.declared.action.Action.TheVariants.{Read, Write, Execute, Delete, Readlink}
use Rattle.jperm.specs.declared.permission.Permission.{Permission}
use Rattle.jperm.specs.declared.permission.Permission.TheVariants.{All, Basic, Property, File, Unresolved}
use Rattle.jperm.specs.Actions.{bit, word, has_all, file_actions}
use Rattle.jperm.specs.PermissionTexts.{words_of, word_parts, action_parts, parts, text_of, class_name, between, quoted, unless_empty}

-- the parts in a row
abbrev pub in_a_row : List (List ℕ) → List ℕ
in_a_row pieces = flat_map (λ part. part) pieces

more_than_none : (n : ℕ) → (suc n == 0) ≡ false
more_than_none n = grind (arith, nat_tests)

-- ---- the actions

word_is_long : (action : Action) (more : List ℕ) → (length (word action ++ more) == 0) ≡ false
word_is_long Read more = more_than_none (length (codes "ead" ++ more))
word_is_long Write more = more_than_none (length (codes "rite" ++ more))
word_is_long Execute more = more_than_none (length (codes "xecute" ++ more))
word_is_long Delete more = more_than_none (length (codes "elete" ++ more))
word_is_long Readlink more = more_than_none (length (codes "eadlink" ++ more))

any_step : (there : Action → Bool) (action : Action) (more : List Action) (b : Bool) → not (length (join_by word (codes ",") (filter there more)) == 0) ≡ list_any there more
    → not (length (join_by word (codes ",") (cond b (action ∷ filter there more) (filter there more))) == 0) ≡ (b || list_any there more)
any_step there action more true h = ap not (word_is_long action (flat_map (λ a. codes "," ++ word a) (filter there more)))
any_step there action more false h = h

-- something is written of the actions that are there where one is there
any_words : (there : Action → Bool) (actions : List Action) → not (length (join_by word (codes ",") (filter there actions)) == 0) ≡ list_any there actions
any_words there [] = refl
any_words there (action ∷ more) = any_step there action more (there action) (any_words there more)

pub some_words : (set : ℕ) → list_any (λ action. has_all set (bit action)) file_actions ≡ not (length (words_of set) == 0)
some_words set = sym (any_words (λ action. has_all set (bit action)) file_actions)

pub ruleset words = (some_words)

behind_step : (there : Action → Bool) (action : Action) (more : List Action) (b : Bool) → in_a_row (word_parts there true more) ≡ flat_map (λ a. codes "," ++ word a) (filter there more)
    → cond b (codes "," ++ word action) [] ++ in_a_row (word_parts there true more) ≡ flat_map (λ a. codes "," ++ word a) (cond b (action ∷ filter there more) (filter there more))
behind_step there action more true h = ap (λ (rest : List ℕ). (codes "," ++ word action) ++ rest) h
behind_step there action more false h = h

behind_parts : (there : Action → Bool) (actions : List Action) → in_a_row (word_parts there true actions) ≡ flat_map (λ a. codes "," ++ word a) (filter there actions)
behind_parts there [] = refl
behind_parts there (action ∷ more) = behind_step there action more (there action) (behind_parts there more)

front_step : (there : Action → Bool) (action : Action) (more : List Action) (b : Bool) → in_a_row (word_parts there false more) ≡ join_by word (codes ",") (filter there more)
    → cond b (word action) [] ++ in_a_row (word_parts there (false || b) more) ≡ join_by word (codes ",") (cond b (action ∷ filter there more) (filter there more))
front_step there action more true h = ap (λ (rest : List ℕ). word action ++ rest) (behind_parts there more)
front_step there action more false h = h

-- the parts of the actions that are there are their words joined by commas
front_parts : (there : Action → Bool) (actions : List Action) → in_a_row (word_parts there false actions) ≡ join_by word (codes ",") (filter there actions)
front_parts there [] = refl
front_parts there (action ∷ more) = front_step there action more (there action) (front_parts there more)

set_parts : (set : ℕ) → in_a_row (word_parts (λ action. has_all set (bit action)) false file_actions) ≡ words_of set
set_parts set = front_parts (λ action. has_all set (bit action)) file_actions

-- ---- the text

closed : (pieces : List (List ℕ)) (actions : List ℕ) → in_a_row pieces ≡ actions → in_a_row (pieces ++ codes "\")" ∷ []) ≡ actions ++ codes "\")"
closed pieces actions h = flat_map-append (λ (part : List ℕ). part) pieces (codes "\")" ∷ []) ∙ ap (λ (front : List ℕ). front ++ codes "\")") h

named_parts : (class text actions : List ℕ) (pieces : List (List ℕ)) → in_a_row pieces ≡ actions
    → in_a_row (codes "(\"" ∷ class ∷ between true ∷ text ∷ between (not (length actions == 0)) ∷ (pieces ++ codes "\")" ∷ [])) ≡ codes "(" ++ (join_by quoted (codes " ") (class ∷ text ∷ unless_empty actions) ++ codes ")")
named_parts class text [] pieces h = rw (closed pieces [] h) (simp append_assoc)
named_parts class text (u ∷ us) pieces h = rw (closed pieces (u ∷ us) h, more_than_none (length us)) (simp append_assoc)

-- the parts in a row are the text
pub parts_join : (p : Permission) → in_a_row (parts p) ≡ text_of p
parts_join All = refl
parts_join (Basic class text) = named_parts (class_name (Basic class text)) text [] ([] ∷ [] ∷ [] ∷ [] ∷ [] ∷ []) refl
parts_join (Property text set) = named_parts (class_name (Property text set)) text (words_of set) (action_parts (Property text set)) (set_parts set)
parts_join (File path text set) = named_parts (class_name (File path text set)) text (words_of set) (action_parts (File path text set)) (set_parts set)
parts_join (Unresolved class) = simp append_assoc

pub eleven : (p : Permission) → length (parts p) ≡ 11
eleven All = refl
eleven (Basic class text) = refl
eleven (Property text set) = refl
eleven (File path text set) = refl
eleven (Unresolved class) = refl

-- ---- a loop over the parts

step : (pieces : List (List ℕ)) (at : ℕ) (front part : List ℕ) → at < length pieces → part ≡ get_or pieces at [] → front ++ in_a_row (drop at pieces) ≡ (front ++ part) ++ in_a_row (drop (at + 1) pieces)
step pieces at front part lt is = rw (drop-cons pieces at [], add-one, is) (sym (append_assoc front (get_or pieces at []) (in_a_row (drop (suc at) pieces))))

pub part_more : (p : Permission) (at : ℕ) (front part : List ℕ) → at < 11 → part ≡ get_or (parts p) at [] → front ++ in_a_row (drop at (parts p)) ≡ text_of p → (front ++ part) ++ in_a_row (drop (at + 1) (parts p)) ≡ text_of p
part_more p at front part lt is so_far =
    let long : at < length (parts p) = omega (arith, eleven p) in
    sym (step (parts p) at front part long is) ∙ so_far

pub parts_end : (p : Permission) (front : List ℕ) → front ++ in_a_row (drop 11 (parts p)) ≡ text_of p → front ≡ text_of p
parts_end All front h = sym (append-nil front) ∙ h
parts_end (Basic class text) front h = sym (append-nil front) ∙ h
parts_end (Property text set) front h = sym (append-nil front) ∙ h
parts_end (File path text set) front h = sym (append-nil front) ∙ h
parts_end (Unresolved class) front h = sym (append-nil front) ∙ h

pub ruleset going = (part_more, parts_end, parts_join)
