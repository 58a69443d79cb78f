-- What may be said behind other things doesn't depend on the paths of class files.
use Rattle.std.proofs.Common.{◌≡◌, ℕ, suc, ◌+◌, ◌==◌, ◌||◌, List, [], ◌∷◌, ◌++◌, Option, Some, None, length, map, option_map, is_some, bytes_eq, refl, sym, ap, ap₂}
use Rattle.std.specs.Prelude.{nat_le, nat_lt}
use Rattle.std.specs.List.{cons_option, filter_map, flat_map, list_any}
use Rattle.jground.specs.jbase.FirstFaults.{first_some, or_else}
use Rattle.jjob.specs.declared.line.Said.{Said}
use Rattle.jjob.specs.declared.line.Said.TheVariants.{Policy, Prop, Cwd, Code, Class, Main, Schedule, Heap, Depth, Steps}
use Rattle.jjob.specs.Jobs.{class_in, clashes, code_in, count_of, cwd_in, depth_in, has, heap_in, main_in, picks_in, policy_in, prop_in, steps_in}
use Rattle.jjob.specs.ProofNames.{is_bad, name_in}
use Rattle.jjob.specs.JobLimits.{most_classes, most_codes, most_picks}

-- what is said, without the path of a class file
abbrev pub blank : Said → Said
blank (Class path) = Class []
blank said = said

-- by cases: a field that says nothing of a class file's path is the same
pub record Unseen {X : Type 0} (field : Said → X) : Type 0 where
  pub same : (s : Said) → field (blank s) ≡ field s

by_cases : {X : Type 0} (field : Said → X) → ((path : List ℕ) → field (Class []) ≡ field (Class path)) → Unseen field
by_cases field class = record { same = go }
  where
    go : (s : Said) → field (blank s) ≡ field s
    go (Policy path) = refl
    go (Prop name value) = refl
    go (Cwd path) = refl
    go (Code source) = refl
    go (Class path) = class path
    go (Main name) = refl
    go (Schedule numbers) = refl
    go (Heap cells) = refl
    go (Depth frames) = refl
    go (Steps steps) = refl

pub policy_unseen : Unseen policy_in
policy_unseen = by_cases policy_in (λ path. refl)

pub prop_unseen : Unseen prop_in
prop_unseen = by_cases prop_in (λ path. refl)

pub name_unseen : Unseen name_in
name_unseen = by_cases name_in (λ path. refl)

pub cwd_unseen : Unseen cwd_in
cwd_unseen = by_cases cwd_in (λ path. refl)

pub code_unseen : Unseen code_in
code_unseen = by_cases code_in (λ path. refl)

pub main_unseen : Unseen main_in
main_unseen = by_cases main_in (λ path. refl)

pub picks_unseen : Unseen picks_in
picks_unseen = by_cases picks_in (λ path. refl)

pub heap_unseen : Unseen heap_in
heap_unseen = by_cases heap_in (λ path. refl)

pub depth_unseen : Unseen depth_in
depth_unseen = by_cases depth_in (λ path. refl)

pub steps_unseen : Unseen steps_in
steps_unseen = by_cases steps_in (λ path. refl)

-- ---- of all that was said

pub first_blank : {X : Type 0} (field : Said → Option X) → Unseen field → (said : List Said) → first_some field (map blank said) ≡ first_some field said
unfolding first_some
first_blank field u [] = refl
first_blank field u (s ∷ said) = ap₂ or_else (u.same s) (first_blank field u said)

pub all_blank : {X : Type 0} (field : Said → Option X) → Unseen field → (said : List Said) → filter_map field (map blank said) ≡ filter_map field said
all_blank field u [] = refl
all_blank field u (s ∷ said) = ap₂ cons_option (u.same s) (all_blank field u said)

pub flat_blank : {X : Type 0} (field : Said → List X) → Unseen field → (said : List Said) → flat_map field (map blank said) ≡ flat_map field said
flat_blank field u [] = refl
flat_blank field u (s ∷ said) = ap₂ (λ xs ys. xs ++ ys) (u.same s) (flat_blank field u said)

class_count : (said : List Said) → count_of class_in (map blank said) ≡ count_of class_in said
class_count [] = refl
class_count (s ∷ said) = go s (class_count said)
  where
    go : (s : Said) → count_of class_in (map blank said) ≡ count_of class_in said → count_of class_in (blank s ∷ map blank said) ≡ count_of class_in (s ∷ said)
    go (Policy path) e = e
    go (Prop name value) e = e
    go (Cwd path) e = e
    go (Code source) e = e
    go (Class path) e = ap suc e
    go (Main name) e = e
    go (Schedule numbers) e = e
    go (Heap cells) e = e
    go (Depth frames) e = e
    go (Steps steps) e = e

-- ---- what may be said behind it

has_blank : {X : Type 0} (field : Said → Option X) → Unseen field → (before : List Said) → has field before ≡ has field (map blank before)
has_blank field u before = ap is_some (sym (first_blank field u before))

pub clashes_blank : (before : List Said) (s : Said) → clashes before s ≡ clashes (map blank before) (blank s)
unfolding clashes
clashes_blank before (Policy path) = has_blank policy_in policy_unseen before
clashes_blank before (Prop name value) = ap (list_any (bytes_eq name)) (sym (all_blank name_in name_unseen before))
clashes_blank before (Cwd path) = has_blank cwd_in cwd_unseen before
clashes_blank before (Code source) = ap (λ xs. nat_le most_codes (length xs)) (sym (all_blank code_in code_unseen before))
clashes_blank before (Class path) = ap₂ (λ xs n. (length xs == 0) || nat_le most_classes n) (sym (all_blank code_in code_unseen before)) (sym (class_count before))
clashes_blank before (Main name) = has_blank main_in main_unseen before
clashes_blank before (Schedule numbers) = ap (λ (xs : List ℕ). nat_lt most_picks (length xs + length numbers)) (sym (flat_blank picks_in picks_unseen before))
clashes_blank before (Heap cells) = has_blank heap_in heap_unseen before
clashes_blank before (Depth frames) = has_blank depth_in depth_unseen before
clashes_blank before (Steps steps) = has_blank steps_in steps_unseen before

pub bad_blank : (before : List Said) (o : Option Said) → is_bad before o ≡ is_bad (map blank before) (option_map blank o)
bad_blank before None = refl
bad_blank before (Some s) = clashes_blank before s
