-- Reading the lines of a job one by one.
use Rattle.std.proofs.Common.{◌≡◌, ℕ, suc, ◌+◌, ◌==◌, ◌&&◌, ◌||◌, not, Bool, true, false, cond, List, [], ◌∷◌, ◌++◌}
use Rattle.std.proofs.Common.{length, take, filter, map, Option, Some, None, refl, sym, ap, ◌∙◌, subst, append_assoc, arith}
use Rattle.std.specs.Prelude.{Result, Ok, Err, IfOk, OnOk, codes, nat_le, nat_lt, option_map, slice_index}
use Rattle.std.specs.List.{after_first, before_first, filter_map, flat_map, cons_option, list_any, onto_first, slice_split}
use Rattle.std.specs.Option.{is_some}
use Rattle.url.specs.Parts.{Parts}
use Rattle.std.specs.Str.{bytes_eq}
use Rattle.std.specs.Result.{result_ok}
use Rattle.jground.specs.jbase.ListMaps.{each_some}
use Rattle.jdomain.specs.CodeSources.{source_of}
use Rattle.std.proofs.lemmas.List.{append-nil, length-append, map-append}
use Rattle.std.proofs.lemmas.List.Elements.{filter_map-append, filter-append}
use Rattle.jground.specs.jbase.FirstFaults.{fault_if, first_along, or_else}
use Rattle.jjob.specs.JobLimits.{most_codes, most_classes, most_picks, most_heap, most_depth, most_steps, greatest_pick}
use Rattle.jjob.specs.declared.line.Said.{Said}
use Rattle.jjob.specs.declared.line.Said.TheVariants.{Policy, Prop, Cwd, Code, Class, Main, Schedule, Heap, Depth, Steps}
use Rattle.jjob.specs.declared.told.Told.{Told}
use Rattle.std.specs.declared.alloc.AllocError.{AllocError}
use Rattle.jjob.specs.JobNumbers.{number_up_to}
use Rattle.jjob.specs.JobLines.{SaysNoProp, code_said, counted, cwd_said, depth_said, frames_said, is_kept, keyed, prop_said, said_of, schedule_said}
use Rattle.jjob.specs.Jobs.{bad_behind, clashes, count_of, first_bad, has, lines_of, said_by}
use Rattle.jjob.specs.Jobs.{class_in, code_in, cwd_in, depth_in, heap_in, main_in, picks_in, policy_in, steps_in}
use Rattle.jjob.specs.ProofNames.{name_in}
use Rattle.jjob.specs.JobReaderState.{IsTold, is_too_much}
use Rattle.jjob.specs.JobLineAnswers.{AreSkipped, IsSkipped, Skips, TakesLine, TellsAll, bad_otherwise, clashes_otherwise}
use Rattle.jjob.specs.JobNames.{first_again, is_named, name_of, name_said, names_again, digest, digests_of}

-- ---- what may not be said

or_none : (b : Bool) → b ≡ (b || false)
or_none true = refl
or_none false = refl

-- whether a property's name was said before
abbrev is_named_again : List Said → Said → Bool
is_named_again before (Prop name value) = list_any (bytes_eq name) (filter_map name_in before)
is_named_again before other = false

clashes_is : (before : List Said) (said : Said) → clashes before said ≡ (clashes_otherwise before said || is_named_again before said)
unfolding clashes
clashes_is before (Policy path) = or_none (has policy_in before)
clashes_is before (Prop name value) = refl
clashes_is before (Cwd path) = or_none (has cwd_in before)
clashes_is before (Code source) = or_none (nat_le most_codes (count_of code_in before))
clashes_is before (Class path) = or_none (count_of code_in before == 0 || nat_le most_classes (count_of class_in before))
clashes_is before (Main name) = or_none (has main_in before)
clashes_is before (Schedule numbers) = or_none (nat_lt most_picks (length (flat_map picks_in before) + length numbers))
clashes_is before (Heap cells) = or_none (has heap_in before)
clashes_is before (Depth frames) = or_none (has depth_in before)
clashes_is before (Steps steps) = or_none (has steps_in before)

-- what is told tells whether something clashes otherwise
otherwise_is : (before : List Said) (told : Told) (said : Said) → IsTold before told → clashes_otherwise before said ≡ is_too_much told said
unfolding clashes is_too_much
otherwise_is before told (Policy path) t = ap is_some (sym t.policy)
otherwise_is before told (Prop name value) t = refl
otherwise_is before told (Cwd path) t = ap is_some (sym t.cwd)
otherwise_is before told (Code source) t = rw (← t.codes) refl
otherwise_is before told (Class path) t = rw (← t.codes, ← t.classes) refl
otherwise_is before told (Main name) t = ap is_some (sym t.main)
otherwise_is before told (Schedule numbers) t = rw (← t.schedule) refl
otherwise_is before told (Heap cells) t = ap is_some (sym t.heap)
otherwise_is before told (Depth frames) t = ap is_some (sym t.depth)
otherwise_is before told (Steps steps) t = ap is_some (sym t.steps)

-- ---- the names of properties

-- the names that lines say are those that are said
named_said : (lines : List (List ℕ)) → filter_map name_of lines ≡ filter_map name_in (said_by lines)
unfolding name_of said_by
named_said [] = refl
named_said (line ∷ more) = go (is_kept line) (named_said more)
  where
    here : (said : Option Said) → filter_map name_of more ≡ filter_map name_in (said_by more)
        → cons_option (name_said said) (filter_map name_of more) ≡ filter_map name_in (cons_option said (said_by more))
    here None e = e
    here (Some said) e = ap (cons_option (name_in said)) e

    go : (kept : Bool) → filter_map name_of more ≡ filter_map name_in (said_by more)
        → cons_option (cond kept (name_said (said_of line)) None) (filter_map name_of more) ≡ filter_map name_in (filter_map said_of (cond kept (line ∷ filter is_kept more) (filter is_kept more)))
    go false e = e
    go true e = here (said_of line) e

name_here : (line : List ℕ) (said : Said) → is_kept line ≡ true → said_of line ≡ Some said → name_of line ≡ name_in said
unfolding name_of
name_here line said kept says = rw (kept, says) refl

-- whether a line says a property's name again, by what it says
again_said : (lines : List (List ℕ)) (line : List ℕ) (said : Said) → is_kept line ≡ true → said_of line ≡ Some said → names_again lines line ≡ is_named_again (said_by lines) said
again_said lines line said kept says = ap (is_named lines) (name_here line said kept says) ∙ go said
  where
    go : (said : Said) → is_named lines (name_in said) ≡ is_named_again (said_by lines) said
    go (Policy path) = refl
    go (Prop name value) = ap (list_any (bytes_eq name)) (named_said lines)
    go (Cwd path) = refl
    go (Code source) = refl
    go (Class path) = refl
    go (Main name) = refl
    go (Schedule numbers) = refl
    go (Heap cells) = refl
    go (Depth frames) = refl
    go (Steps steps) = refl

-- a line that says no property says no name
pub says_no_name : (line : List ℕ) → SaysNoProp line → name_of line ≡ None
unfolding name_of
says_no_name line other = go (is_kept line) (said_of line) refl
  where
    go : (kept : Bool) (said : Option Said) → said_of line ≡ said → cond kept (name_said said) None ≡ None
    go false said is = refl
    go true None is = refl
    go true (Some (Policy path)) is = refl
    go true (Some (Prop name value)) is = absurd (other name value is)
    go true (Some (Cwd path)) is = refl
    go true (Some (Code source)) is = refl
    go true (Some (Class path)) is = refl
    go true (Some (Main name)) is = refl
    go true (Some (Schedule numbers)) is = refl
    go true (Some (Heap cells)) is = refl
    go true (Some (Depth frames)) is = refl
    go true (Some (Steps steps)) is = refl

not_code : (o : Option Parts) (name value : List ℕ) → option_map Code o ≡ Some (Prop name value) → ⊥
not_code None name value e = cc
not_code (Some source) name value e = cc

not_picks : (o : Option (List ℕ)) (name value : List ℕ) → option_map Schedule o ≡ Some (Prop name value) → ⊥
not_picks None name value e = cc
not_picks (Some numbers) name value e = cc

not_heap : (o : Option ℕ) (name value : List ℕ) → option_map Heap o ≡ Some (Prop name value) → ⊥
not_heap None name value e = cc
not_heap (Some cells) name value e = cc

not_steps : (o : Option ℕ) (name value : List ℕ) → option_map Steps o ≡ Some (Prop name value) → ⊥
not_steps None name value e = cc
not_steps (Some steps) name value e = cc

not_depth : (o : Option ℕ) (name value : List ℕ) → frames_said o ≡ Some (Prop name value) → ⊥
not_depth None name value e = cc
not_depth (Some frames) name value e = go (frames == 0) e
  where
    go : (b : Bool) → cond b None (Some (Depth frames)) ≡ Some (Prop name value) → ⊥
    go true e = cc
    go false e = cc

not_counted : (key text name value : List ℕ) → counted key text ≡ Some (Prop name value) → ⊥
unfolding counted schedule_said depth_said
not_counted key text name value e = go (bytes_eq key (codes "schedule")) (bytes_eq key (codes "heap")) (bytes_eq key (codes "depth")) (bytes_eq key (codes "steps")) e
  where
    go : (a b c d : Bool)
        → cond a (schedule_said text) (cond b (option_map Heap (number_up_to most_heap text)) (cond c (depth_said text) (cond d (option_map Steps (number_up_to most_steps text)) None))) ≡ Some (Prop name value) → ⊥
    go true b c d e = not_picks (each_some (number_up_to greatest_pick) (slice_split (λ b. b == 32) text)) name value e
    go false true c d e = not_heap (number_up_to most_heap text) name value e
    go false false true d e = not_depth (number_up_to most_depth text) name value e
    go false false false true e = not_steps (number_up_to most_steps text) name value e
    go false false false false e = cc

not_cwd : (b : Bool) (text name value : List ℕ) → cond b (Some (Cwd text)) None ≡ Some (Prop name value) → ⊥
not_cwd true text name value e = cc
not_cwd false text name value e = cc

keyed_other : (key text name value : List ℕ) → bytes_eq key (codes "prop") ≡ false → keyed key text ≡ Some (Prop name value) → ⊥
unfolding keyed cwd_said code_said
keyed_other key text name value is e =
    go (bytes_eq key (codes "policy")) (bytes_eq key (codes "prop")) (bytes_eq key (codes "cwd")) (bytes_eq key (codes "code"))
    (bytes_eq key (codes "class")) (bytes_eq key (codes "main")) is e
  where
    go : (a b c d f g : Bool) → b ≡ false → cond a (Some (Policy text)) (cond b (prop_said text) (cond c (cwd_said text)
        (cond d (code_said text) (cond f (Some (Class text)) (cond g (Some (Main text)) (counted key text)))))) ≡ Some (Prop name value) → ⊥
    go true b c d f g is e = cc
    go false true c d f g is e = cc
    go false false true d f g is e = not_cwd (slice_index text 0 == 47) text name value e
    go false false false true f g is e = not_code (result_ok (source_of text)) name value e
    go false false false false true g is e = cc
    go false false false false false true is e = cc
    go false false false false false false is e = not_counted key text name value e

-- a line that has another key says no property
pub says_other : (line key : List ℕ) → key ≡ before_first (λ b. b == 32) line → bytes_eq key (codes "prop") ≡ false → SaysNoProp line
unfolding said_of
says_other line key first is name value e = go (length (after_first (λ b. b == 32) line) == 0) e
  where
    go : (b : Bool) → cond b None (keyed (before_first (λ b. b == 32) line) (after_first (λ b. b == 32) line)) ≡ Some (Prop name value) → ⊥
    go true e = cc
    go false e = keyed_other (before_first (λ b. b == 32) line) (after_first (λ b. b == 32) line) name value (ap (λ (k : List ℕ). bytes_eq k (codes "prop")) (sym first) ∙ is) e

-- a property is never too much
pub prop_fits : (told : Told) (name value : List ℕ) → is_too_much told (Prop name value) ≡ false
unfolding is_too_much
prop_fits told name value = refl

-- ---- one line

no_name : (line : List ℕ) (kept : Bool) (said : Option Said) → is_kept line ≡ kept → said_of line ≡ said → cond kept (name_said said) None ≡ None → name_of line ≡ None
unfolding name_of
no_name line kept said k s e = rw (k, s) e

-- a line is bad where it is bad otherwise, or says a name again
bad_is : (lines : List (List ℕ)) (line : List ℕ) → bad_behind lines line ≡ (bad_otherwise lines line || names_again lines line)
bad_is lines line = go (is_kept line) (said_of line) refl refl
  where
    go : (kept : Bool) (said : Option Said) → is_kept line ≡ kept → said_of line ≡ said → bad_behind lines line ≡ (bad_otherwise lines line || names_again lines line)
    go false said k s = rw (k, no_name line false said k s refl) refl
    go true None k s = rw (k, s) refl
    go true (Some said) k s = rw (k, s) (clashes_is (said_by lines) said ∙ ap (λ (b : Bool). clashes_otherwise (said_by lines) said || b) (sym (again_said lines line said k s)))

pub said_more : (lines : List (List ℕ)) (line : List ℕ) → said_by (lines ++ line ∷ []) ≡ said_by lines ++ filter_map said_of (filter is_kept (line ∷ []))
unfolding said_by
said_more lines line = ap (filter_map said_of) (filter-append is_kept lines (line ∷ [])) ∙ filter_map-append said_of (filter is_kept lines) (filter is_kept (line ∷ []))

pub said_here : (line : List ℕ) (kept : Bool) → is_kept line ≡ kept → filter_map said_of (filter is_kept (line ∷ [])) ≡ cond kept (cons_option (said_of line) []) []
said_here line true is = rw is refl
said_here line false is = rw is refl

pub takes_skipped : (lines : List (List ℕ)) (line : List ℕ) (told : Told) → is_kept line ≡ false → IsTold (said_by lines) told → TakesLine lines line told (Ok true)
takes_skipped lines line told skipped is =
    let same : said_by (lines ++ line ∷ []) ≡ said_by lines = said_more lines line ∙ ap (λ (l : List Said). said_by lines ++ l) (said_here line false skipped) ∙ append-nil (said_by lines) in
    (rw skipped refl, subst (λ (s : List Said). IsTold s told) (sym same) is)

-- a line that says nothing
pub takes_nothing : (lines : List (List ℕ)) (line : List ℕ) → is_kept line ≡ true → said_of line ≡ None → bad_otherwise lines line ≡ true
takes_nothing lines line kept says = rw (kept, says) refl

pub takes_too_much : (lines : List (List ℕ)) (line : List ℕ) (said : Said) (told : Told) → is_kept line ≡ true → said_of line ≡ Some said → is_too_much told said ≡ true
    → IsTold (said_by lines) told → bad_otherwise lines line ≡ true
takes_too_much lines line said told kept says much is = rw (kept, says) (otherwise_is (said_by lines) told said is ∙ much)

pub takes_said : (lines : List (List ℕ)) (line : List ℕ) (said : Said) (old new : Told) → is_kept line ≡ true → said_of line ≡ Some said → is_too_much old said ≡ false
    → IsTold (said_by lines) old → IsTold (said_by lines ++ said ∷ []) new → TakesLine lines line new (Ok true)
takes_said lines line said old new kept says fits is more =
    let here : filter_map said_of (filter is_kept (line ∷ [])) ≡ said ∷ [] = said_here line true kept ∙ ap (λ (o : Option Said). cons_option o []) says in
    let grown : said_by (lines ++ line ∷ []) ≡ said_by lines ++ said ∷ [] = said_more lines line ∙ ap (λ (l : List Said). said_by lines ++ l) here in
    (rw (kept, says) (otherwise_is (said_by lines) old said is ∙ fits), subst (λ (s : List Said). IsTold s new) (sym grown) more)

-- ---- the first bad line, and the first name again

abbrev pub test : (List (List ℕ) → List ℕ → Bool) → List (List ℕ) → ℕ → List ℕ → Option ℕ
test behind all i line = fault_if (behind (take i all) line) (i + 1)

take_front : (xs ys : List (List ℕ)) → take (length xs) (xs ++ ys) ≡ xs
take_front [] ys = refl
take_front (x ∷ xs) ys = ap (λ (l : List (List ℕ)). x ∷ l) (take_front xs ys)

pub test_here : (behind : List (List ℕ) → List ℕ → Bool) (all before left : List (List ℕ)) (line : List ℕ) → before ++ left ≡ all
    → test behind all (length before) line ≡ fault_if (behind before line) (length before + 1)
test_here behind all before left line whole =
    let front : take (length before) all ≡ before = ap (take (length before)) (sym whole) ∙ take_front before left in
    ap (λ (ls : List (List ℕ)). fault_if (behind ls line) (length before + 1)) front

pub along_step : (test : ℕ → List ℕ → Option ℕ) (i : ℕ) (line : List ℕ) (more : List (List ℕ))
    → first_along test i (line ∷ more) ≡ or_else (test i line) (first_along test (i + 1) more)
unfolding first_along
along_step test i line more = refl

first_none : (test : ℕ → List ℕ → Option ℕ) (i : ℕ) → first_along test i [] ≡ None
unfolding first_along
first_none test i = refl

else_none : {X : Type 0} (o : Option X) → or_else o None ≡ o
else_none None = refl
else_none (Some x) = refl

else_behind : {X : Type 0} (a b c : Option X) → or_else (or_else a b) c ≡ or_else a (or_else b c)
else_behind None b c = refl
else_behind (Some x) b c = refl

pub longer : (before : List (List ℕ)) (line : List ℕ) → length (before ++ line ∷ []) ≡ length before + 1
longer before line = length-append before (line ∷ [])

-- tests look at the lines before alone
pub same_tests : (behind : List (List ℕ) → List ℕ → Bool) (done xs more all part : List (List ℕ)) → done ++ (xs ++ more) ≡ all → done ++ xs ≡ part
    → first_along (test behind all) (length done) xs ≡ first_along (test behind part) (length done) xs
same_tests behind done [] more all part a p = first_none (test behind all) (length done) ∙ sym (first_none (test behind part) (length done))
same_tests behind done (x ∷ xs) more all part a p =
    let one = test_here behind all done (x ∷ (xs ++ more)) x a ∙ sym (test_here behind part done (x ∷ xs) x p) in
    let rest = same_tests behind (done ++ x ∷ []) xs more all part (append_assoc done (x ∷ []) (xs ++ more) ∙ a) (append_assoc done (x ∷ []) xs ∙ p) in
    let later : first_along (test behind all) (length done + 1) xs ≡ first_along (test behind part) (length done + 1) xs
    = ap (λ (i : ℕ). first_along (test behind all) i xs) (sym (longer done x)) ∙ rest ∙ ap (λ (i : ℕ). first_along (test behind part) i xs) (longer done x) in
    along_step (test behind all) (length done) x xs ∙ ap (λ (o : Option ℕ). or_else o (first_along (test behind all) (length done + 1) xs)) one
    ∙ ap (or_else (test behind part (length done) x)) later ∙ sym (along_step (test behind part) (length done) x xs)

from_zero : (n : ℕ) → 0 + n ≡ n
from_zero n = omega arith

-- lines, and lines behind them
along_parts : (test : ℕ → List ℕ → Option ℕ) (i : ℕ) (xs ys : List (List ℕ))
    → first_along test i (xs ++ ys) ≡ or_else (first_along test i xs) (first_along test (i + length xs) ys)
unfolding first_along
along_parts test i [] ys = let at : i ≡ i + 0 = omega arith in ap (λ (j : ℕ). first_along test j ys) at
along_parts test i (x ∷ xs) ys =
    let at : i + 1 + length xs ≡ i + suc (length xs) = omega arith in
    ap (or_else (test i x)) (along_parts test (i + 1) xs ys ∙ ap (λ (j : ℕ). or_else (first_along test (i + 1) xs) (first_along test j ys)) at)
    ∙ sym (else_behind (test i x) (first_along test (i + 1) xs) (first_along test (i + suc (length xs)) ys))

pub along_both : (test : ℕ → List ℕ → Option ℕ) (xs ys : List (List ℕ)) → first_along test 0 (xs ++ ys) ≡ or_else (first_along test 0 xs) (first_along test (length xs) ys)
along_both test xs ys = along_parts test 0 xs ys ∙ ap (λ (j : ℕ). or_else (first_along test 0 xs) (first_along test j ys)) (from_zero (length xs))

-- the first name again with one line more
again_more : (before : List (List ℕ)) (line : List ℕ) → first_again (before ++ line ∷ []) ≡ or_else (first_again before) (fault_if (names_again before line) (length before + 1))
unfolding first_again
again_more before line =
    let all = before ++ line ∷ [] in
    let one : first_along (test names_again all) 0 all ≡ or_else (first_along (test names_again all) 0 before) (test names_again all (length before) line)
    = along_both (test names_again all) before (line ∷ [])
    ∙ ap (or_else (first_along (test names_again all) 0 before)) (along_step (test names_again all) (length before) line []
    ∙ ap (or_else (test names_again all (length before) line)) (first_none (test names_again all) (length before + 1))
    ∙ else_none (test names_again all (length before) line)) in
    let same : first_along (test names_again all) 0 before ≡ first_along (test names_again before) 0 before = same_tests names_again [] before (line ∷ []) all before refl refl in
    one ∙ ap (λ (o : Option ℕ). or_else o (test names_again all (length before) line)) same
    ∙ ap (or_else (first_along (test names_again before) 0 before)) (test_here names_again all before (line ∷ []) line refl)

-- ---- all lines

-- the digests with one line more
digests_more : (before : List (List ℕ)) (line : List ℕ) (old now : List ℕ) → old ≡ digests_of before → now ≡ old ++ digests_of (line ∷ []) → now ≡ digests_of (before ++ line ∷ [])
digests_more before line old now known more =
    more ∙ ap (λ (l : List ℕ). l ++ digests_of (line ∷ [])) known ∙ sym (map-append digest (filter_map name_of before) (filter_map name_of (line ∷ [])))
    ∙ ap (map digest) (sym (filter_map-append name_of before (line ∷ [])))

-- some lines were taken, with the digests of their names, and these are left
pub record Along (all : List (List ℕ)) (number : ℕ) (left : List (List ℕ)) (told : Told) (digests : List ℕ) : Type 0 where
  pub before : List (List ℕ)
  pub whole : before ++ left ≡ all
  pub place : number ≡ length before + 1
  pub first : or_else (first_again before) (first_along (test bad_behind all) (length before) left) ≡ first_bad all
  pub known : digests ≡ digests_of before
  pub is : IsTold (said_by before) told

pub along_begins : (all : List (List ℕ)) (told : Told) (digests : List ℕ) → digests ≡ [] → IsTold [] told → Along all 1 all told digests
unfolding said_by first_bad first_again first_along
along_begins all told digests none is = record { before = []; whole = refl; place = refl; first = refl; known = none; is = is }

-- the lines that are left, with what the first of them says
along_first : (all before left : List (List ℕ)) (line : List ℕ) (more : List (List ℕ)) (bad : Bool) → before ++ left ≡ all → left ≡ line ∷ more → bad_behind before line ≡ bad
    → first_along (test bad_behind all) (length before) left ≡ or_else (fault_if bad (length before + 1)) (first_along (test bad_behind all) (length before + 1) more)
along_first all before left line more bad whole is b =
    ap (first_along (test bad_behind all) (length before)) is ∙ along_step (test bad_behind all) (length before) line more
    ∙ ap (λ (o : Option ℕ). or_else o (first_along (test bad_behind all) (length before + 1) more))
    (test_here bad_behind all before left line whole ∙ ap (λ (t : Bool). fault_if t (length before + 1)) b)

-- what a call answers to a line
abbrev pub Takes : Told → List ℕ → Told → Bool → Type 0
Takes old line new taken = (lines : List (List ℕ)) → IsTold (said_by lines) old → TakesLine lines line new (Ok taken)

pub along_more : (all : List (List ℕ)) (number : ℕ) (left : List (List ℕ)) (line : List ℕ) (more : List (List ℕ)) (old new : Told) (noted now : List ℕ) (taken : Bool)
    → Along all number left old noted → left ≡ line ∷ more → Takes old line new taken → taken ≡ true → now ≡ noted ++ digests_of (line ∷ []) → Along all (number + 1) more new now
along_more all number left line more old new noted now taken along is takes was note =
    let here = subst (λ (b : Bool). TakesLine along.before line new (Ok b)) was (takes along.before along.is) in
    let shape : along.before ++ line ∷ more ≡ all = ap (λ (l : List (List ℕ)). along.before ++ l) (sym is) ∙ along.whole in
    let size = longer along.before line in
    let bad : bad_behind along.before line ≡ names_again along.before line = bad_is along.before line ∙ ap (λ (b : Bool). b || names_again along.before line) here.0 in
    let later = first_along (test bad_behind all) (length along.before + 1) more in
    record {
      before = along.before ++ line ∷ [];
      whole = append_assoc along.before (line ∷ []) more ∙ shape;
      place = ap (λ (n : ℕ). n + 1) along.place ∙ ap (λ (n : ℕ). n + 1) (sym size);
      first = ap (λ (i : ℕ). or_else (first_again (along.before ++ line ∷ [])) (first_along (test bad_behind all) i more)) size
          ∙ ap (λ (o : Option ℕ). or_else o later) (again_more along.before line)
          ∙ else_behind (first_again along.before) (fault_if (names_again along.before line) (length along.before + 1)) later
          ∙ ap (or_else (first_again along.before)) (sym (along_first all along.before left line more (names_again along.before line) along.whole is bad))
          ∙ along.first;
      known = digests_more along.before line noted now along.known note;
      is = here.1;
    }

-- a line is bad otherwise, so the first bad one is the first that says a name again, else this line
pub along_bad : (all : List (List ℕ)) (number : ℕ) (left : List (List ℕ)) (line : List ℕ) (more : List (List ℕ)) (old new : Told) (noted now : List ℕ) (taken : Bool) (bad : ℕ)
    → Along all number left old noted → left ≡ line ∷ more → Takes old line new taken → taken ≡ false → now ≡ noted ++ digests_of (line ∷ [])
    → ((before left : List (List ℕ)) → before ++ left ≡ all → number ≡ length before → now ≡ digests_of before → or_else (first_again before) (Some number) ≡ Some bad)
    → first_bad all ≡ Some bad
along_bad all number left line more old new noted now taken bad along is takes was note judged =
    let otherwise : bad_otherwise along.before line ≡ true = subst (λ (b : Bool). TakesLine along.before line new (Ok b)) was (takes along.before along.is) in
    let here : bad_behind along.before line ≡ true = bad_is along.before line ∙ ap (λ (b : Bool). b || names_again along.before line) otherwise in
    let first : or_else (first_again along.before) (Some number) ≡ first_bad all = ap (λ (n : ℕ). or_else (first_again along.before) (Some n)) along.place
    ∙ ap (or_else (first_again along.before)) (sym (along_first all along.before left line more true along.whole is here)) ∙ along.first in
    let again : first_again (along.before ++ line ∷ []) ≡ or_else (first_again along.before) (fault_if (names_again along.before line) number)
    = again_more along.before line ∙ ap (λ (n : ℕ). or_else (first_again along.before) (fault_if (names_again along.before line) n)) (sym along.place) in
    let shape : (along.before ++ line ∷ []) ++ more ≡ all = append_assoc along.before (line ∷ []) more ∙ ap (λ (l : List (List ℕ)). along.before ++ l) (sym is) ∙ along.whole in
    let judge = judged (along.before ++ line ∷ []) more shape (along.place ∙ sym (longer along.before line)) (digests_more along.before line noted now along.known note) in
    sym first ∙ go (first_again along.before) (names_again along.before line) ∙ ap (λ (o : Option ℕ). or_else o (Some number)) (sym again) ∙ judge
  where
    go : (o : Option ℕ) (b : Bool) → or_else o (Some number) ≡ or_else (or_else o (fault_if b number)) (Some number)
    go None true = refl
    go None false = refl
    go (Some n) b = refl

-- all lines were taken, so the first bad one is the first that says a name again
pub along_ends : (all : List (List ℕ)) (number : ℕ) (left : List (List ℕ)) (line : List ℕ) (old new : Told) (noted now : List ℕ) (taken : Bool) (again : Option ℕ)
    → Along all number left old noted → left ≡ line ∷ [] → Takes old line new taken → taken ≡ true → now ≡ noted ++ digests_of (line ∷ [])
    → (now ≡ digests_of all → again ≡ first_again all) → (first_bad all ≡ again) × IsTold (said_by all) new
along_ends all number left line old new noted now taken again along is takes was note judged =
    let last = along_more all number left line [] old new noted now taken along is takes was note in
    let same : last.before ≡ all = sym (append-nil last.before) ∙ last.whole in (
      sym last.first ∙ ap (or_else (first_again last.before)) (first_none (test bad_behind all) (length last.before)) ∙ else_none (first_again last.before)
          ∙ ap first_again same ∙ sym (judged (last.known ∙ ap digests_of same)),
      subst (λ (ls : List (List ℕ)). IsTold (said_by ls) new) same last.is,
    )

-- the answer to whether a name stands twice is that to all lines
pub ends_so : (all : List (List ℕ)) (number : ℕ) (left : List (List ℕ)) (line : List ℕ) (old new : Told) (noted now : List ℕ) (taken : Bool)
    (result : Result (Option ℕ) AllocError) → Along all number left old noted → left ≡ line ∷ [] → Takes old line new taken → taken ≡ true
    → now ≡ noted ++ digests_of (line ∷ []) → (now ≡ digests_of all → IfOk result (λ again. again ≡ first_again all)) → IfOk result (TellsAll all new)
ends_so all number left line old new noted now taken (Err e) along is takes was note judged = tt
ends_so all number left line old new noted now taken (Ok (Some again)) along is takes was note judged =
    (along_ends all number left line old new noted now taken (Some again) along is takes was note judged).0
ends_so all number left line old new noted now taken (Ok None) along is takes was note judged =
    along_ends all number left line old new noted now taken None along is takes was note judged

-- ---- lines that are skipped

-- an empty line
pub skipped_empty : (text more : List ℕ) → text ≡ 10 ∷ more → IsSkipped (lines_of text) (lines_of more)
unfolding is_kept
skipped_empty text more is = ([], refl, ap lines_of is)

-- a line that begins with `#`
pub skipped_mark : (text rest line : List ℕ) (more : List (List ℕ)) → text ≡ 35 ∷ rest → lines_of rest ≡ line ∷ more → IsSkipped (lines_of text) more
unfolding is_kept
skipped_mark text rest line more is lines = (35 ∷ line, and_false (not (length (35 ∷ line) == 0)), ap lines_of is ∙ ap (onto_first 35) lines)
  where
    and_false : (b : Bool) → (b && false) ≡ false
    and_false true = refl
    and_false false = refl

pub skips_none : (lines : List (List ℕ)) (number : ℕ) → Skips lines number lines number
skips_none lines number = record { front = []; whole = refl; skipped = tt; count = omega arith }

one_skipped : (front : List (List ℕ)) (line : List ℕ) → AreSkipped front → is_kept line ≡ false → AreSkipped (front ++ line ∷ [])
one_skipped [] line all one = (one, tt)
one_skipped (x ∷ front) line all one = (all.0, one_skipped front line all.1 one)

pub skips_more : (lines : List (List ℕ)) (number : ℕ) (left : List (List ℕ)) (at : ℕ) (more : List (List ℕ))
    → Skips lines number left at → IsSkipped left more → Skips lines number more (at + 1)
skips_more lines number left at more skips one =
    let size = longer skips.front one.0 in
    record {
      front = skips.front ++ one.0 ∷ [];
      whole = append_assoc skips.front (one.0 ∷ []) more ∙ ap (λ (l : List (List ℕ)). skips.front ++ l) (sym one.2) ∙ skips.whole;
      skipped = one_skipped skips.front one.0 skips.skipped one.1;
      count = omega (arith, skips.count, size);
    }

skip_one : (all : List (List ℕ)) (number : ℕ) (left : List (List ℕ)) (line : List ℕ) (more : List (List ℕ)) (told : Told) (noted : List ℕ)
    → Along all number left told noted → left ≡ line ∷ more → is_kept line ≡ false → Along all (number + 1) more told noted
skip_one all number left line more told noted along is skipped =
    let none : name_of line ≡ None = no_name line false (said_of line) skipped refl refl in
    along_more all number left line more told told noted noted true along is (λ lines is. takes_skipped lines line told skipped is) refl (rw none (sym (append-nil noted)))

skip_all : (all : List (List ℕ)) (number : ℕ) (front left more : List (List ℕ)) (told : Told) (noted : List ℕ)
    → Along all number left told noted → AreSkipped front → front ++ more ≡ left → Along all (number + length front) more told noted
skip_all all number [] left more told noted along skipped whole =
    let at : number ≡ number + 0 = omega arith in
    subst (λ (n : ℕ). Along all n more told noted) at (subst (λ (l : List (List ℕ)). Along all number l told noted) (sym whole) along)
skip_all all number (line ∷ front) left more told noted along skipped whole =
    let at : number + 1 + length front ≡ number + suc (length front) = omega arith in
    subst (λ (n : ℕ). Along all n more told noted) at
    (skip_all all (number + 1) front (front ++ more) more told noted (skip_one all number left line (front ++ more) told noted along (sym whole) skipped.0) skipped.1 refl)

-- lines that are skipped say nothing
pub along_skips : (all : List (List ℕ)) (number : ℕ) (left : List (List ℕ)) (at : ℕ) (more : List (List ℕ)) (told : Told) (noted : List ℕ)
    → Along all number left told noted → Skips left number more at → Along all at more told noted
along_skips all number left at more told noted along skips =
    subst (λ (n : ℕ). Along all n more told noted) (sym skips.count) (skip_all all number skips.front left more told noted along skips.skipped skips.whole)

-- the call answers well, whatever it answers
pub on_ok : {A E P : Type 0} (result : Result A E) → P → OnOk result P
on_ok (Ok a) p = p
on_ok (Err e) p = tt

-- the digests of a line that says no property, and of one that says one
pub digest_none : (line : List ℕ) (digests : List ℕ) → name_of line ≡ None → digests ≡ digests ++ digests_of (line ∷ [])
digest_none line digests none = rw none (sym (append-nil digests))

pub digest_skipped : (line : List ℕ) (digests : List ℕ) → is_kept line ≡ false → digests ≡ digests ++ digests_of (line ∷ [])
digest_skipped line digests skipped = digest_none line digests (no_name line false (said_of line) skipped refl refl)

pub digest_prop : (line name value : List ℕ) (digests : List ℕ) → is_kept line ≡ true → said_of line ≡ Some (Prop name value)
    → digests ++ digest name ∷ [] ≡ digests ++ digests_of (line ∷ [])
digest_prop line name value digests kept says = rw (name_here line (Prop name value) kept says) refl
