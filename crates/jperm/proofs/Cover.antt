-- What a list of permissions covers.
use Rattle.std.proofs.Common.{◌≡◌, ℕ, zero, suc, ◌<◌, ◌==◌, Bool, true, false, ◌&&◌, ◌||◌, if◌then◌else◌, List, [], ◌∷◌, ◌++◌, length, get_or, refl, sym, ap, ◌∙◌, arith, bit_or, fold, subst}
use Rattle.std.specs.List.{Contains}
use Rattle.std.specs.Str.{bytes_eq}
use Rattle.std.proofs.lemmas.List.Elements.{Contains-append_left}
use Rattle.std.proofs.lemmas.List.Folds.{Any-from_list_any, list_any-from_Any}
use Rattle.std.proofs.lemmas.Bool.Decides.{nat_tests}
use Rattle.std.proofs.lemmas.List.Sums.{fold-append}
use Rattle.jperm.specs.declared.permission.Permission.{Permission}
use Rattle.jperm.specs.declared.permission.Permission.TheVariants.{All, Basic, Property, File, Unresolved}
use Rattle.jperm.specs.declared.path.FilePath.{FilePath}
use Rattle.jperm.specs.declared.path.FilePath.TheVariants.{AllFiles, Below, Children, Exact}
use Rattle.jperm.specs.Actions.{has_all}
use Rattle.jperm.specs.NameCoverage.{name_covers, is_wildcard, goes_on, but_last}
use Rattle.jperm.specs.PathCoverage.{path_covers, is_below}
use Rattle.jperm.specs.Permissions.{implies, covers, united, gives, stands_alone, one_implies, together, same_class, asks_nothing, is_unresolved}
use Rattle.jperm.proofs.Bits.{has_all-trans, has_all-left, has_all-right, has_all-both, has_all-none, has_all-itself, or_assoc, or-zero, zero-or, zero-and}
use Rattle.jperm.proofs.PermissionEquality.{and_left, and_right, and_both, text_itself, class_itself}

pub or_left : (a b : Bool) → a ≡ true → (a || b) ≡ true
or_left true b h = refl
or_left false b h = cc

pub or_right : (a b : Bool) → b ≡ true → (a || b) ≡ true
or_right true b h = refl
or_right false b h = h

pub either : {Q : Type 0} (a b : Bool) → (a || b) ≡ true → (a ≡ true → Q) → (b ≡ true → Q) → Q
either true b h left right = left refl
either false b h left right = right h

-- ---- united actions

abbrev add : Permission → ℕ → Permission → ℕ
add asked all member = bit_or all (gives member asked)

-- what is gathered from a start keeps the start
fold_keeps : (asked : Permission) (start : ℕ) (list : List Permission) → has_all (fold (add asked) start list) start ≡ true
fold_keeps asked start [] = has_all-itself start
fold_keeps asked start (q ∷ list) =
    has_all-trans (fold (add asked) (bit_or start (gives q asked)) list) (bit_or start (gives q asked)) start
    (fold_keeps asked (bit_or start (gives q asked)) list) (has_all-left start (gives q asked))

pub fold_has : (asked : Permission) (start : ℕ) (list : List Permission) (q : Permission) (k : ℕ) → k < length list → get_or list k q ≡ q → has_all (fold (add asked) start list) (gives q asked) ≡ true
fold_has asked start [] q k lt at = absurd (omega arith)
fold_has asked start (r ∷ list) q zero lt at =
    subst (λ (p : Permission). has_all (fold (add asked) (bit_or start (gives r asked)) list) (gives p asked) ≡ true) at
    (has_all-trans (fold (add asked) (bit_or start (gives r asked)) list) (bit_or start (gives r asked)) (gives r asked) (fold_keeps asked (bit_or start (gives r asked)) list) (has_all-right start (gives r asked)))
fold_has asked start (r ∷ list) q (suc k) lt at = fold_has asked (bit_or start (gives r asked)) list q k (omega arith) at

pub fold_within : (asked : Permission) (n start : ℕ) (list : List Permission) → ((q : Permission) → Contains list q → has_all n (gives q asked) ≡ true) → has_all n start ≡ true → has_all n (fold (add asked) start list) ≡ true
fold_within asked n start [] h s = s
fold_within asked n start (r ∷ list) h s =
    fold_within asked n (bit_or start (gives r asked)) list (λ q c. h q (suc c.0, omega (arith, c.1), c.2))
    (has_all-both n start (gives r asked) s (h r (0, omega arith, refl)))

fold_from : (asked : Permission) (a start : ℕ) (list : List Permission) → fold (add asked) (bit_or a start) list ≡ bit_or a (fold (add asked) start list)
fold_from asked a start [] = refl
fold_from asked a start (q ∷ list) = ap (λ (n : ℕ). fold (add asked) n list) (or_assoc a start (gives q asked)) ∙ fold_from asked a (bit_or start (gives q asked)) list

-- two lists behind each other give the actions of both
pub united-append : (list more : List Permission) (asked : Permission) → united (list ++ more) asked ≡ bit_or (united list asked) (united more asked)
united-append list more asked =
    fold-append (add asked) 0 list more
    ∙ ap (λ (n : ℕ). fold (add asked) n more) (sym (or-zero (united list asked)))
    ∙ fold_from asked (united list asked) 0 more

-- ---- more members

one_of_more : (list more : List Permission) (asked : Permission) → ((q : Permission) → Contains list q → Contains more q) → one_implies list asked ≡ true → one_implies more asked ≡ true
one_of_more list more asked within h =
    let found = Any-from_list_any (λ member. stands_alone member && implies member asked) list h in
    let there = within found.1 (found.0, found.2, found.3) in
    list_any-from_Any (λ member. stands_alone member && implies member asked) more (there.0, found.1, there.1, there.2, found.4)

together_more : (list more : List Permission) (asked : Permission) (actions : ℕ) → ((q : Permission) → Contains list q → Contains more q) → has_all (united list asked) actions ≡ true → has_all (united more asked) actions ≡ true
together_more list more asked actions within h =
    has_all-trans (united more asked) (united list asked) actions
    (fold_within asked (united more asked) 0 list (λ q c. let there = within q c in fold_has asked 0 more q there.0 there.1 there.2) (has_all-none (united more asked))) h

together_of_more : (list more : List Permission) (asked : Permission) → ((q : Permission) → Contains list q → Contains more q) → together list asked ≡ true → together more asked ≡ true
together_of_more list more (Property wanted actions) within h = together_more list more (Property wanted actions) actions within h
together_of_more list more (File wanted name actions) within h = together_more list more (File wanted name actions) actions within h
together_of_more list more All within h = h
together_of_more list more (Basic class name) within h = h
together_of_more list more (Unresolved class) within h = h

-- a list that has all members of another covers what that covers
pub more_covers : (list more : List Permission) (asked : Permission) → ((q : Permission) → Contains list q → Contains more q) → covers list asked ≡ true → covers more asked ≡ true
more_covers list more asked within h =
    either (one_implies list asked) (together list asked) h
    (λ e. or_left (one_implies more asked) (together more asked) (one_of_more list more asked within e))
    (λ e. or_right (one_implies more asked) (together more asked) (together_of_more list more asked within e))

pub covers_behind : (list more : List Permission) (asked : Permission) → covers list asked ≡ true → covers (list ++ more) asked ≡ true
covers_behind list more asked h = more_covers list (list ++ more) asked (λ q c. Contains-append_left list more q c) h

-- ---- one member

one_alone : (list : List Permission) (q asked : Permission) → Contains list q → stands_alone q ≡ true → implies q asked ≡ true → covers list asked ≡ true
one_alone list q asked c alone h =
    or_left (one_implies list asked) (together list asked)
    (list_any-from_Any (λ member. stands_alone member && implies member asked) list (c.0, q, c.1, c.2, and_both (stands_alone q) (implies q asked) alone h))

one_given : (list : List Permission) (q asked : Permission) (actions wanted : ℕ) → Contains list q → gives q asked ≡ actions → has_all actions wanted ≡ true → has_all (united list asked) wanted ≡ true
one_given list q asked actions wanted c is h =
    has_all-trans (united list asked) (gives q asked) wanted (fold_has asked 0 list q c.0 c.1 c.2) (rw is h)

given_if : (b : Bool) (actions : ℕ) → b ≡ true → (if b then actions else 0) ≡ actions
given_if true actions h = refl
given_if false actions h = cc

-- a list covers what one member implies
pub one_covers : (list : List Permission) (q asked : Permission) → Contains list q → implies q asked ≡ true → covers list asked ≡ true
one_covers list (Property name actions) (Property wanted all) c h =
    or_right (one_implies list (Property wanted all)) (together list (Property wanted all))
    (one_given list (Property name actions) (Property wanted all) actions all c (given_if (name_covers name wanted) actions (and_left (name_covers name wanted) (has_all actions all) h)) (and_right (name_covers name wanted) (has_all actions all) h))
one_covers list (File path name actions) (File wanted other all) c h =
    or_right (one_implies list (File wanted other all)) (together list (File wanted other all))
    (one_given list (File path name actions) (File wanted other all) actions all c (given_if (path_covers path wanted) actions (and_left (path_covers path wanted) (has_all actions all) h)) (and_right (path_covers path wanted) (has_all actions all) h))
one_covers list All asked c h = one_alone list All asked c refl h
one_covers list (Basic class name) asked c h = one_alone list (Basic class name) asked c refl h
one_covers list (Unresolved class) asked c h = one_alone list (Unresolved class) asked c refl h
one_covers list (Property name actions) _ c h = cc
one_covers list (File path name actions) _ c h = cc

-- ---- a member that gives nothing

others_together : (q asked : Permission) (list : List Permission) → gives q asked ≡ 0 → together (q ∷ list) asked ≡ together list asked
others_together q (Property wanted actions) list h = ap (λ (n : ℕ). has_all (fold (add (Property wanted actions)) (bit_or 0 n) list) actions) h
others_together q (File wanted name actions) list h = ap (λ (n : ℕ). has_all (fold (add (File wanted name actions)) (bit_or 0 n) list) actions) h
others_together q All list h = refl
others_together q (Basic class name) list h = refl
others_together q (Unresolved class) list h = refl

-- a member that neither implies what is asked for nor gives actions on it changes nothing
pub others_nothing : (q asked : Permission) (list : List Permission) → (stands_alone q && implies q asked) ≡ false → gives q asked ≡ 0 → covers (q ∷ list) asked ≡ covers list asked
others_nothing q asked list alone h = rw (alone, others_together q asked list h) refl

-- ---- a list of one

pub none_given : (wanted : ℕ) → (wanted == 0) ≡ false → has_all 0 wanted ≡ false
none_given wanted h = rw (zero-and wanted) (grind (arith, nat_tests))

one_gives : (b : Bool) (actions wanted : ℕ) → (wanted == 0) ≡ false → has_all (bit_or 0 (if b then actions else 0)) wanted ≡ (b && has_all actions wanted)
one_gives true actions wanted h = ap (λ (n : ℕ). has_all n wanted) (zero-or actions)
one_gives false actions wanted h = none_given wanted h

or_false : (b : Bool) → (b || false) ≡ b
or_false true = refl
or_false false = refl

-- a list of one covers what that one implies, and nothing else, where actions are asked for
pub alone_covers : (q asked : Permission) → asks_nothing asked ≡ false → covers (q ∷ []) asked ≡ implies q asked
alone_covers All asked h = refl
alone_covers (Property name actions) (Property wanted all) h = one_gives (name_covers name wanted) actions all h
alone_covers (File path name actions) (File wanted other all) h = one_gives (path_covers path wanted) actions all h
alone_covers (Basic class name) (Basic other wanted) h = or_false ((same_class class other && name_covers name wanted) || false) ∙ or_false (same_class class other && name_covers name wanted)
alone_covers q (Property wanted all) h = none_given all h
alone_covers q (File wanted other all) h = none_given all h
alone_covers q asked h = refl

-- ---- a permission implies itself

path_covers_itself : (path : FilePath) → path_covers path path ≡ true
path_covers_itself AllFiles = refl
path_covers_itself (Below directory) = or_left (bytes_eq directory directory) (is_below directory directory) (text_itself directory)
path_covers_itself (Children directory) = text_itself directory
path_covers_itself (Exact path) = text_itself path

name_covers_itself : (name : List ℕ) → name_covers name name ≡ true
name_covers_itself name = or_left (bytes_eq name name) (is_wildcard name && goes_on (but_last name) name) (text_itself name)

pub implies_itself : (p : Permission) → is_unresolved p ≡ false → implies p p ≡ true
implies_itself All h = refl
implies_itself (Basic class name) h = and_both (same_class class class) (name_covers name name) (class_itself class) (name_covers_itself name)
implies_itself (Property name actions) h = and_both (name_covers name name) (has_all actions actions) (name_covers_itself name) (has_all-itself actions)
implies_itself (File path name actions) h = and_both (path_covers path path) (has_all actions actions) (path_covers_itself path) (has_all-itself actions)
implies_itself (Unresolved class) h = cc
