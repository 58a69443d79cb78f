-- What one line says with another path.
use Rattle.std.proofs.Common.{◌≡◌, ℕ, Bool, true, false, cond, List, [], ◌∷◌, ◌++◌, Option, Some, None, codes, drop, filter, filter_map, option_map, option_to_list, refl, sym, ap, ◌∙◌, subst, arith}
use Rattle.std.specs.List.{AllByRecursion}
use Rattle.jjob.specs.declared.line.Said.{Said}
use Rattle.jjob.specs.declared.line.Said.TheVariants.{Policy, Prop, Cwd, Code, Class, Main, Schedule, Heap, Depth, Steps}
use Rattle.jjob.specs.JobLines.{is_kept, said_of}
use Rattle.jjob.specs.Jobs.{said_by}
use Rattle.jjob.specs.StoredJobText.{line_with, names_class, paths_behind, with_first}
use Rattle.jjob_laws.specs.StoredJobs.{IsName}
use Rattle.jjob_laws.proofs.PathIndependence.{blank}
use Rattle.jjob_laws.proofs.Words.{class_kept, class_line, class_none, class_said, no_class}

-- what a line says, if anything
abbrev pub says : List ℕ → List Said
says line = cond (is_kept line) (option_to_list (said_of line)) []

pub said_cons : (line : List ℕ) (more : List (List ℕ)) → said_by (line ∷ more) ≡ says line ++ said_by more
unfolding said_by
said_cons line more = go (is_kept line) (said_of line) refl refl
  where
    go : (kept : Bool) (o : Option Said) → is_kept line ≡ kept → said_of line ≡ o
        → filter_map said_of (cond (is_kept line) (line ∷ filter is_kept more) (filter is_kept more)) ≡ cond (is_kept line) (option_to_list (said_of line)) [] ++ filter_map said_of (filter is_kept more)
    go false o k s = rw k refl
    go true None k s = rw (k, s) refl
    go true (Some said) k s = rw (k, s) refl

-- what is said, with these paths of class files
abbrev pub with_paths : List (List ℕ) → List Said → List Said
with_paths [] said = said
with_paths (path ∷ paths) [] = []
with_paths (path ∷ paths) (Class old ∷ said) = Class path ∷ with_paths paths said
with_paths (path ∷ paths) (other ∷ said) = other ∷ with_paths (path ∷ paths) said

pub no_paths : (paths : List (List ℕ)) → with_paths paths [] ≡ []
no_paths [] = refl
no_paths (path ∷ paths) = refl

other_stays : (paths : List (List ℕ)) (s : Said) (said : List Said) → ((old : List ℕ) → s ≡ Class old → ⊥) → with_paths paths (s ∷ said) ≡ s ∷ with_paths paths said
other_stays [] s said h = refl
other_stays (path ∷ paths) (Policy old) said h = refl
other_stays (path ∷ paths) (Prop name value) said h = refl
other_stays (path ∷ paths) (Cwd old) said h = refl
other_stays (path ∷ paths) (Code source) said h = refl
other_stays (path ∷ paths) (Class old) said h = absurd (h old refl)
other_stays (path ∷ paths) (Main name) said h = refl
other_stays (path ∷ paths) (Schedule numbers) said h = refl
other_stays (path ∷ paths) (Heap cells) said h = refl
other_stays (path ∷ paths) (Depth frames) said h = refl
other_stays (path ∷ paths) (Steps steps) said h = refl

-- A line and another one in its place: it is kept where that is, says the same but for the path of a class file, and of these paths those are left.
pub record Step (paths : List (List ℕ)) (line new : List ℕ) (left : List (List ℕ)) : Type 0 where
  pub kept : is_kept new ≡ is_kept line
  pub like : option_map blank (said_of new) ≡ option_map blank (said_of line)
  pub said : (more : List Said) → with_paths paths (says line ++ more) ≡ says new ++ with_paths left more

-- ---- a line that names a class file

says_class : (b : ℕ) (value : List ℕ) → says (codes "class " ++ b ∷ value) ≡ Class (b ∷ value) ∷ []
says_class b value = rw (class_kept (b ∷ value), class_said b value) refl

class_step : (paths : List (List ℕ)) (value : List ℕ) → AllByRecursion IsName paths → (said_of (codes "class " ++ value) ≡ None → ⊥)
    → Step paths (codes "class " ++ value) (with_first paths (codes "class " ++ value)) (drop 1 paths)
class_step paths [] h good = absurd (good class_none)
class_step [] (b ∷ value) h good = record { kept = refl; like = refl; said = λ more. refl }
class_step ([] ∷ paths) (b ∷ value) h good = absurd (let n = h.0.some in omega arith)
class_step ((c ∷ path) ∷ paths) (b ∷ value) h good = record {
  kept = class_kept (c ∷ path) ∙ sym (class_kept (b ∷ value));
  like = ap (option_map blank) (class_said c path) ∙ sym (ap (option_map blank) (class_said b value));
  said = λ more.
      ap (λ (ss : List Said). with_paths ((c ∷ path) ∷ paths) (ss ++ more)) (says_class b value)
      ∙ sym (ap (λ (ss : List Said). ss ++ with_paths paths more) (says_class c path));
}

-- ---- any line

same_said : (paths : List (List ℕ)) (line : List ℕ) (kept : Bool) (o : Option Said) → names_class line ≡ false → is_kept line ≡ kept → said_of line ≡ o
    → (more : List Said) → with_paths paths (cond kept (option_to_list o) [] ++ more) ≡ cond kept (option_to_list o) [] ++ with_paths paths more
same_said paths line false o not k s more = refl
same_said paths line true None not k s more = refl
same_said paths line true (Some said) not k s more = other_stays paths said more (λ old is. no_class line old not (s ∙ ap (λ (x : Said). Some x) is))

other_step : (paths : List (List ℕ)) (line : List ℕ) → names_class line ≡ false → Step paths line line paths
other_step paths line not = record { kept = refl; like = refl; said = same_said paths line (is_kept line) (said_of line) not refl refl }

-- a line that isn't bad by itself, and that with the first of these paths in the place of its own
pub step : (paths : List (List ℕ)) (line : List ℕ) → AllByRecursion IsName paths → (is_kept line ≡ true → said_of line ≡ None → ⊥)
    → Step paths line (line_with paths line) (paths_behind paths line)
step paths line h good = go (names_class line) refl
  where
    class : line ≡ codes "class " ++ drop 6 line → Step paths line (with_first paths line) (drop 1 paths)
    class is = subst (λ (l : List ℕ). Step paths l (with_first paths l) (drop 1 paths)) (sym is)
        (class_step paths (drop 6 line) h (λ none. good (ap is_kept is ∙ class_kept (drop 6 line)) (ap said_of is ∙ none)))

    go : (t : Bool) → names_class line ≡ t → Step paths line (cond t (with_first paths line) line) (cond t (drop 1 paths) paths)
    go true t = class (class_line line t)
    go false t = other_step paths line t
