-- The code sources of a job with other paths.
use Rattle.std.proofs.Common.{◌≡◌, ℕ, zero, suc, ◌==◌, ◌||◌, ◌&&◌, Bool, true, false, true≢false, List, [], ◌∷◌, ◌++◌, Option, Some, None, drop, filter_map, length, refl, sym, ap, ap₂, ◌∙◌, subst, append-nil}
use Rattle.std.specs.Prelude.{nat_le}
use Rattle.std.proofs.lemmas.List.Elements.{filter_map-append}
use Rattle.jjob.specs.declared.job.JobSource.{JobSource}
use Rattle.jjob.specs.declared.line.Said.{Said}
use Rattle.jjob.specs.declared.line.Said.TheVariants.{Policy, Prop, Cwd, Code, Class, Main, Schedule, Heap, Depth, Steps}
use Rattle.jjob.specs.JobLines.{is_kept, said_of}
use Rattle.jjob.specs.Jobs.{clashes, classes_here, code_in, count_of, said_by, sources_of}
use Rattle.jjob.specs.JobLimits.{most_classes}
use Rattle.jjob.specs.Jobs.{class_in}
use Rattle.jjob.specs.ProofNames.{is_bad}
use Rattle.jjob_laws.specs.StoredJobs.{in_place, with_classes}
use Rattle.jjob_laws.proofs.StoredLineFaults.{Fine, bad_at}
use Rattle.jjob_laws.proofs.PathReplacement.{said_cons, says, with_paths}

none_behind : {X : Type 0} (n : ℕ) → drop {A = X} n [] ≡ []
none_behind zero = refl
none_behind (suc n) = refl

no_classes : (sources : List JobSource) → with_classes [] sources ≡ sources
unfolding with_classes
no_classes [] = refl
no_classes (one ∷ more) = ap (λ (rest : List JobSource). one ∷ rest) (ap (λ (ps : List (List ℕ)). with_classes ps more) (none_behind (length one.classes)) ∙ no_classes more)

-- what stands before the next code source takes the first of these paths, and the code sources those behind
pub record Placed (paths : List (List ℕ)) (said : List Said) : Type 0 where
  pub here : classes_here (with_paths paths said) ≡ in_place paths (classes_here said)
  pub later : sources_of (with_paths paths said) ≡ with_classes (drop (length (classes_here said)) paths) (sources_of said)

module _ (path : List ℕ) (paths : List (List ℕ)) (said : List Said) where
  abbrev all : List (List ℕ)
  all = path ∷ paths

  at_class : (old : List ℕ) → Placed paths said → Placed all (Class old ∷ said)
  unfolding classes_here sources_of
  at_class old p = record { here = ap (λ (cs : List (List ℕ)). path ∷ cs) p.here; later = p.later }

  at_code : (source : _) → Placed all said → Placed all (Code source ∷ said)
  unfolding classes_here sources_of with_classes
  at_code source p = record { here = refl; later = ap₂ (λ (cs : List (List ℕ)) (more : List JobSource). record { source = source; classes = cs } ∷ more) p.here p.later }

placed : (paths : List (List ℕ)) (said : List Said) → Placed paths said
unfolding classes_here sources_of with_classes
placed [] said = record { here = refl; later = sym (ap (λ (ps : List (List ℕ)). with_classes ps (sources_of said)) (none_behind (length (classes_here said))) ∙ no_classes (sources_of said)) }
placed (path ∷ paths) [] = record { here = refl; later = refl }
placed (path ∷ paths) (Policy x ∷ said) = let p = placed (path ∷ paths) said in record { here = p.here; later = p.later }
placed (path ∷ paths) (Prop x y ∷ said) = let p = placed (path ∷ paths) said in record { here = p.here; later = p.later }
placed (path ∷ paths) (Cwd x ∷ said) = let p = placed (path ∷ paths) said in record { here = p.here; later = p.later }
placed (path ∷ paths) (Code x ∷ said) = at_code path paths said x (placed (path ∷ paths) said)
placed (path ∷ paths) (Class x ∷ said) = at_class path paths said x (placed paths said)
placed (path ∷ paths) (Main x ∷ said) = let p = placed (path ∷ paths) said in record { here = p.here; later = p.later }
placed (path ∷ paths) (Schedule x ∷ said) = let p = placed (path ∷ paths) said in record { here = p.here; later = p.later }
placed (path ∷ paths) (Heap x ∷ said) = let p = placed (path ∷ paths) said in record { here = p.here; later = p.later }
placed (path ∷ paths) (Depth x ∷ said) = let p = placed (path ∷ paths) said in record { here = p.here; later = p.later }
placed (path ∷ paths) (Steps x ∷ said) = let p = placed (path ∷ paths) said in record { here = p.here; later = p.later }

-- ---- no class file stands before the first code source

abbrev codes_said : List Said → ℕ
codes_said before = count_of code_in before

module _ (before : List Said) (line : List ℕ) (none : codes_said before ≡ 0) (f : bad_at before line ≡ false) (kept : is_kept line ≡ true) where
  fits : (s : Said) → said_of line ≡ Some s → clashes before s ≡ false
  fits s is = sym (ap₂ (λ (b : Bool) (o : Option Said). b && is_bad before o) kept is) ∙ f

  not_class : (path : List ℕ) → said_of line ≡ Some (Class path) → ⊥
  unfolding clashes
  not_class path is = true≢false (sym (ap (λ (n : ℕ). (n == 0) || nat_le most_classes (count_of class_in before)) none) ∙ fits (Class path) is)

still_none : (before : List Said) (s : Said) → codes_said before ≡ 0 → code_in s ≡ None → codes_said (before ++ s ∷ []) ≡ 0
still_none before s none is =
    ap length (filter_map-append code_in before (s ∷ []) ∙ ap (λ (o : Option _). filter_map code_in before ++ filter_map (λ (x : Option _). x) (o ∷ [])) is ∙ append-nil (filter_map code_in before)) ∙ none

module _ (before : List Said) (line : List ℕ) (more : List (List ℕ)) (none : codes_said before ≡ 0) (f : Fine before (line ∷ more))
    (later : (b : List Said) → codes_said b ≡ 0 → Fine b more → classes_here (said_by more) ≡ []) where
  rest : says line ≡ [] → classes_here (said_by more) ≡ []
  rest is = later before none (subst (λ (ss : List Said). Fine ss more) (ap (λ (ss : List Said). before ++ ss) is ∙ append-nil before) f.1)

  on : (s : Said) → says line ≡ s ∷ [] → code_in s ≡ None → classes_here (said_by more) ≡ []
  on s is other = later (before ++ s ∷ []) (still_none before s none other) (subst (λ (ss : List Said). Fine (before ++ ss) more) is f.1)

  at : (s : Said) → is_kept line ≡ true → said_of line ≡ Some s → says line ≡ s ∷ [] → classes_here (s ∷ said_by more) ≡ []
  unfolding classes_here
  at (Policy x) k s is = on (Policy x) is refl
  at (Prop x y) k s is = on (Prop x y) is refl
  at (Cwd x) k s is = on (Cwd x) is refl
  at (Code x) k s is = refl
  at (Class x) k s is = absurd (not_class before line none f.0 k x s)
  at (Main x) k s is = on (Main x) is refl
  at (Schedule x) k s is = on (Schedule x) is refl
  at (Heap x) k s is = on (Heap x) is refl
  at (Depth x) k s is = on (Depth x) is refl
  at (Steps x) k s is = on (Steps x) is refl

  here : classes_here (says line ++ said_by more) ≡ []
  here = go (is_kept line) (said_of line) refl refl
    where
      go : (kept : Bool) (o : Option Said) → is_kept line ≡ kept → said_of line ≡ o → classes_here (says line ++ said_by more) ≡ []
      go false o k s = let is : says line ≡ [] = rw k refl in ap (λ (ss : List Said). classes_here (ss ++ said_by more)) is ∙ rest is
      go true None k s = let is : says line ≡ [] = rw (k, s) refl in ap (λ (ss : List Said). classes_here (ss ++ said_by more)) is ∙ rest is
      go true (Some x) k s = let is : says line ≡ x ∷ [] = rw (k, s) refl in ap (λ (ss : List Said). classes_here (ss ++ said_by more)) is ∙ at x k s is

none_before : (before : List Said) (lines : List (List ℕ)) → codes_said before ≡ 0 → Fine before lines → classes_here (said_by lines) ≡ []
unfolding classes_here said_by
none_before before [] none f = refl
none_before before (line ∷ more) none f = ap classes_here (said_cons line more) ∙ here before line more none f (λ b n g. none_before b more n g)

-- the code sources have these paths in the place of those of their class files
pub sources_again : (paths lines : List (List ℕ)) → Fine [] lines → sources_of (with_paths paths (said_by lines)) ≡ with_classes paths (sources_of (said_by lines))
sources_again paths lines f =
    (placed paths (said_by lines)).later
    ∙ ap (λ (cs : List (List ℕ)). with_classes (drop (length cs) paths) (sources_of (said_by lines))) (none_before [] lines refl f)
