-- No line of a job that is stored is bad where no line of the first one was, and what they say.
use Rattle.std.proofs.Common.{◌≡◌, ℕ, ◌+◌, ◌&&◌, Bool, true, false, true≢false, cond, List, [], ◌∷◌, ◌++◌, Option, Some, None, filter, filter_map, length, map, option_map, option_to_list, take, refl, sym, ap, ap₂, ◌∙◌, subst, append_assoc, append-nil}
use Rattle.std.specs.List.{AllByRecursion}
use Rattle.std.proofs.lemmas.List.{length-append, map-append, take_at}
use Rattle.std.proofs.lemmas.List.Elements.{filter-append, filter_map-append}
use Rattle.jground.specs.jbase.FirstFaults.{fault_if, first_along, or_else}
use Rattle.jjob.specs.declared.line.Said.{Said}
use Rattle.jjob.specs.declared.line.Said.TheVariants.{Policy, Prop, Cwd, Code, Class, Main, Schedule, Heap, Depth, Steps}
use Rattle.jjob.specs.JobLines.{is_kept, said_of}
use Rattle.jjob.specs.Jobs.{bad_behind, first_bad, said_by}
use Rattle.jjob.specs.ProofNames.{is_bad}
use Rattle.jjob.specs.StoredJobText.{line_with, paths_behind}
use Rattle.jjob_laws.specs.StoredJobs.{IsName}
use Rattle.jjob_laws.proofs.PathIndependence.{bad_blank, blank}
use Rattle.jjob_laws.proofs.Lines.{behind_are, relined}
use Rattle.jjob_laws.proofs.PathReplacement.{Step, no_paths, said_cons, says, step, with_paths}

-- whether a line is bad behind what was said
abbrev pub bad_at : List Said → List ℕ → Bool
bad_at before line = is_kept line && is_bad before (said_of line)

-- none of these lines is, behind what was said and those before it
abbrev pub Fine : List Said → List (List ℕ) → Type 0
Fine before [] = Unit {0}
Fine before (line ∷ more) = (bad_at before line ≡ false) × Fine (before ++ says line) more

-- ---- as the first bad line is found

abbrev test : List (List ℕ) → ℕ → List ℕ → Option ℕ
test all i line = fault_if (bad_behind (take i all) line) (i + 1)

said_more : (lines : List (List ℕ)) (line : List ℕ) → said_by (lines ++ line ∷ []) ≡ said_by lines ++ says line
unfolding said_by
said_more lines line =
    ap (filter_map said_of) (filter-append is_kept lines (line ∷ [])) ∙ filter_map-append said_of (filter is_kept lines) (filter is_kept (line ∷ []))
    ∙ ap (λ (s : List Said). filter_map said_of (filter is_kept lines) ++ s) (said_cons line [] ∙ append-nil (says line))

test_here : (all before left : List (List ℕ)) (line : List ℕ) → before ++ left ≡ all → test all (length before) line ≡ fault_if (bad_at (said_by before) line) (length before + 1)
test_here all before left line whole =
    let front : take (length before) all ≡ before = ap (take (length before)) (sym whole) ∙ take_at before left (length before) refl in
    ap (λ (ls : List (List ℕ)). fault_if (bad_behind ls line) (length before + 1)) front

no_fault : (b : Bool) (n : ℕ) → fault_if b n ≡ None → b ≡ false
no_fault true n e = cc
no_fault false n e = refl

both_none : {F : Type 0} (a b : Option F) → or_else a b ≡ None → (a ≡ None) × (b ≡ None)
both_none (Some f) b e = cc
both_none None b e = (refl, e)

along : (test : ℕ → List ℕ → Option ℕ) (i : ℕ) (line : List ℕ) (more : List (List ℕ)) → first_along test i (line ∷ more) ≡ or_else (test i line) (first_along test (i + 1) more)
unfolding first_along
along test i line more = refl

longer : (before : List (List ℕ)) (line : List ℕ) → length (before ++ line ∷ []) ≡ length before + 1
longer before line = length-append before (line ∷ [])

fine_from : (before lines all : List (List ℕ)) → before ++ lines ≡ all → first_along (test all) (length before) lines ≡ None → Fine (said_by before) lines
fine_from before [] all whole e = tt
fine_from before (line ∷ more) all whole e =
    let both = both_none (test all (length before) line) (first_along (test all) (length before + 1) more) (sym (along (test all) (length before) line more) ∙ e) in
    let here : bad_at (said_by before) line ≡ false = no_fault (bad_at (said_by before) line) (length before + 1) (sym (test_here all before (line ∷ more) line whole) ∙ both.0) in
    let later : first_along (test all) (length (before ++ line ∷ [])) more ≡ None = ap (λ (i : ℕ). first_along (test all) i more) (longer before line) ∙ both.1 in
    (here, subst (λ (s : List Said). Fine s more) (said_more before line) (fine_from (before ++ line ∷ []) more all (append_assoc before (line ∷ []) more ∙ whole) later))

fine_to : (before lines all : List (List ℕ)) → before ++ lines ≡ all → Fine (said_by before) lines → first_along (test all) (length before) lines ≡ None
unfolding first_along
fine_to before [] all whole f = refl
fine_to before (line ∷ more) all whole f =
    let here : test all (length before) line ≡ None = test_here all before (line ∷ more) line whole ∙ ap (λ (b : Bool). fault_if b (length before + 1)) f.0 in
    let later : first_along (test all) (length (before ++ line ∷ [])) more ≡ None =
    fine_to (before ++ line ∷ []) more all (append_assoc before (line ∷ []) more ∙ whole) (subst (λ (s : List Said). Fine s more) (sym (said_more before line)) f.1) in
    ap₂ or_else here (ap (λ (i : ℕ). first_along (test all) i more) (sym (longer before line)) ∙ later)

said_nothing : said_by [] ≡ []
unfolding said_by
said_nothing = refl

pub is_fine : (lines : List (List ℕ)) → first_bad lines ≡ None → Fine [] lines
unfolding first_bad
is_fine lines e = subst (λ (s : List Said). Fine s lines) said_nothing (fine_from [] lines lines refl e)

pub none_bad : (lines : List (List ℕ)) → Fine [] lines → first_bad lines ≡ None
unfolding first_bad
none_bad lines f = fine_to [] lines lines refl (subst (λ (s : List Said). Fine s lines) (sym said_nothing) f)

-- ---- with other paths

not_alone : (before : List Said) (line : List ℕ) → bad_at before line ≡ false → is_kept line ≡ true → said_of line ≡ None → ⊥
not_alone before line f kept says = true≢false (sym (ap₂ (λ (b : Bool) (o : Option Said). b && is_bad before o) kept says) ∙ f)

says_none : says [] ≡ []
unfolding is_kept
says_none = refl

empty_says : said_by ([] ∷ []) ≡ []
empty_says = said_cons [] [] ∙ ap₂ (λ (a b : List Said). a ++ b) says_none said_nothing

pub said_again : (paths lines : List (List ℕ)) (before : List Said) → AllByRecursion IsName paths → Fine before lines → said_by (relined paths lines) ≡ with_paths paths (said_by lines)
said_again paths [] before h f = empty_says ∙ sym (ap (with_paths paths) said_nothing ∙ no_paths paths)
said_again paths ([] ∷ []) before h f = empty_says ∙ sym (ap (with_paths paths) empty_says ∙ no_paths paths)
said_again paths ((b ∷ line) ∷ []) before h f =
    let new = line_with paths (b ∷ line) in
    let left = paths_behind paths (b ∷ line) in
    let s = step paths (b ∷ line) h (not_alone before (b ∷ line) f.0) in
    said_cons new ([] ∷ []) ∙ ap (λ (x : List Said). says new ++ x) (empty_says ∙ sym (no_paths left)) ∙ sym (s.said [])
    ∙ ap (λ (x : List Said). with_paths paths (says (b ∷ line) ++ x)) (sym said_nothing) ∙ ap (with_paths paths) (sym (said_cons (b ∷ line) []))
said_again paths (line ∷ next ∷ more) before h f =
    let new = line_with paths line in
    let left = paths_behind paths line in
    let s = step paths line h (not_alone before line f.0) in
    said_cons new (relined left (next ∷ more))
    ∙ ap (λ (x : List Said). says new ++ x) (said_again left (next ∷ more) (before ++ says line) (behind_are IsName paths line h) f.1)
    ∙ sym (s.said (said_by (next ∷ more))) ∙ ap (with_paths paths) (sym (said_cons line (next ∷ more)))

-- a line in the place of another is bad where that one is
module _ (paths : List (List ℕ)) (line new : List ℕ) (left : List (List ℕ)) (s : Step paths line new left) (before now : List Said) (same : map blank now ≡ map blank before) where
  bad_same : bad_at now new ≡ bad_at before line
  bad_same =
      ap₂ (λ (k b : Bool). k && b) s.kept
      (bad_blank now (said_of new) ∙ ap₂ (λ (ss : List Said) (o : Option Said). is_bad ss o) same s.like ∙ sym (bad_blank before (said_of line)))

  blank_says : (l : List ℕ) → map blank (says l) ≡ cond (is_kept l) (option_to_list (option_map blank (said_of l))) []
  blank_says l = go (is_kept l) (said_of l)
    where
      go : (k : Bool) (o : Option Said) → map blank (cond k (option_to_list o) []) ≡ cond k (option_to_list (option_map blank o)) []
      go false o = refl
      go true None = refl
      go true (Some x) = refl

  says_same : map blank (now ++ says new) ≡ map blank (before ++ says line)
  says_same =
      let one : map blank (says new) ≡ map blank (says line) =
      blank_says new ∙ ap₂ (λ (k : Bool) (o : Option Said). cond k (option_to_list o) []) s.kept s.like ∙ sym (blank_says line) in
      map-append blank now (says new) ∙ ap₂ (λ (a b : List Said). a ++ b) same one ∙ sym (map-append blank before (says line))

empty_fine : (now : List Said) → Fine now ([] ∷ [])
unfolding is_kept
empty_fine now = (refl, tt)

pub fine_again : (paths lines : List (List ℕ)) (before now : List Said) → AllByRecursion IsName paths → map blank now ≡ map blank before → Fine before lines → Fine now (relined paths lines)
fine_again paths [] before now h same f = empty_fine now
fine_again paths ([] ∷ []) before now h same f = empty_fine now
fine_again paths ((b ∷ line) ∷ []) before now h same f =
    let s = step paths (b ∷ line) h (not_alone before (b ∷ line) f.0) in
    (bad_same paths (b ∷ line) (line_with paths (b ∷ line)) (paths_behind paths (b ∷ line)) s before now same ∙ f.0, empty_fine (now ++ says (line_with paths (b ∷ line))))
fine_again paths (line ∷ next ∷ more) before now h same f =
    let s = step paths line h (not_alone before line f.0) in
    let new = line_with paths line in
    let left = paths_behind paths line in (
      bad_same paths line new left s before now same ∙ f.0,
      fine_again left (next ∷ more) (before ++ says line) (now ++ says new) (behind_are IsName paths line h) (says_same paths line new left s before now same) f.1,
    )

pub blank_paths : (paths : List (List ℕ)) (said : List Said) → map blank (with_paths paths said) ≡ map blank said
blank_paths [] said = refl
blank_paths (path ∷ paths) [] = refl
blank_paths (path ∷ paths) (s ∷ said) = go s (blank_paths (path ∷ paths) said) (blank_paths paths said)
  where
    go : (s : Said) → map blank (with_paths (path ∷ paths) said) ≡ map blank said → map blank (with_paths paths said) ≡ map blank said
        → map blank (with_paths (path ∷ paths) (s ∷ said)) ≡ map blank (s ∷ said)
    go (Policy x) e r = ap (λ (ss : List Said). Policy x ∷ ss) e
    go (Prop x y) e r = ap (λ (ss : List Said). Prop x y ∷ ss) e
    go (Cwd x) e r = ap (λ (ss : List Said). Cwd x ∷ ss) e
    go (Code x) e r = ap (λ (ss : List Said). Code x ∷ ss) e
    go (Class x) e r = ap (λ (ss : List Said). Class [] ∷ ss) r
    go (Main x) e r = ap (λ (ss : List Said). Main x ∷ ss) e
    go (Schedule x) e r = ap (λ (ss : List Said). Schedule x ∷ ss) e
    go (Heap x) e r = ap (λ (ss : List Said). Heap x ∷ ss) e
    go (Depth x) e r = ap (λ (ss : List Said). Depth x ∷ ss) e
    go (Steps x) e r = ap (λ (ss : List Said). Steps x ∷ ss) e
