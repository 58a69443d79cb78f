-- What a job says whose class files have other paths.
use Rattle.std.proofs.Common.{◌≡◌, ℕ, zero, suc, ◌+◌, List, [], ◌∷◌, ◌++◌, Ok, drop, length, map, refl, sym, ap, ap₂, ◌∙◌}
use Rattle.std.proofs.lemmas.List.{length-map}
use Rattle.url.specs.Parts.{Parts}
use Rattle.jdomain.specs.Domains.{granted}
use Rattle.jpolicy.specs.declared.grant.Grant.{Grant}
use Rattle.jjob.specs.declared.job.Job.{Job}
use Rattle.jjob.specs.declared.job.JobSource.{JobSource}
use Rattle.jjob.specs.Jobs.{job}
use Rattle.jjob_laws.specs.StoredJobs.{JobIsSmall, in_place, with_classes}
use Rattle.jtasks.specs.declared.jstages.job_setup.ClassPath.{ClassPath}
use Rattle.jtasks.specs.declared.jstages.job_setup.JobSetup.{JobSetup}
use Rattle.jtasks.specs.jstages.JobPlans.{ArePaths, ground_of, paths_from, paths_with, urls_of}
use Rattle.jtasks.proofs.JstagesProofs.Paths.{are_paths}

-- class files, each at the next of these paths
abbrev pub replaced : List (List ℕ) → List ClassPath → List ClassPath
replaced [] old = old
replaced (path ∷ paths) [] = []
replaced (path ∷ paths) (one ∷ old) = record { domain = one.domain; path = path } ∷ replaced paths old

no_more : (paths : List (List ℕ)) → replaced paths [] ≡ []
no_more [] = refl
no_more (path ∷ paths) = refl

with_again : (domain : ℕ) (paths old : List (List ℕ)) → paths_with domain (in_place paths old) ≡ replaced paths (paths_with domain old)
with_again domain [] old = refl
with_again domain (path ∷ paths) [] = refl
with_again domain (path ∷ paths) (one ∷ old) = ap (λ (rest : List ClassPath). record { domain = domain; path = path } ∷ rest) (with_again domain paths old)

none_behind : {X : Type 0} (n : ℕ) → drop {A = X} n [] ≡ []
none_behind zero = refl
none_behind (suc n) = refl

replaced_both : (paths : List (List ℕ)) (xs ys : List ClassPath) → replaced paths (xs ++ ys) ≡ replaced paths xs ++ replaced (drop (length xs) paths) ys
replaced_both [] xs ys = ap (λ (ps : List (List ℕ)). xs ++ replaced ps ys) (sym (none_behind (length xs)))
replaced_both (path ∷ paths) [] ys = refl
replaced_both (path ∷ paths) (x ∷ xs) ys = ap (λ (rest : List ClassPath). record { domain = x.domain; path = path } ∷ rest) (replaced_both paths xs ys)

paths_again : (domain : ℕ) (paths : List (List ℕ)) (sources : List JobSource) → paths_from domain (with_classes paths sources) ≡ replaced paths (paths_from domain sources)
unfolding paths_from with_classes
paths_again domain paths [] = sym (no_more paths)
paths_again domain paths (one ∷ more) =
    let count : length (paths_with domain one.classes) ≡ length one.classes = length-map _ _ in
    ap₂ (λ (a b : List ClassPath). a ++ b) (with_again domain paths one.classes) (paths_again (domain + 1) (drop (length one.classes) paths) more)
    ∙ ap (λ (n : ℕ). replaced paths (paths_with domain one.classes) ++ replaced (drop n paths) (paths_from (domain + 1) more)) (sym count)
    ∙ sym (replaced_both paths (paths_with domain one.classes) (paths_from (domain + 1) more))

urls_again : (paths : List (List ℕ)) (sources : List JobSource) → urls_of (with_classes paths sources) ≡ urls_of sources
unfolding with_classes
urls_again paths [] = refl
urls_again paths (one ∷ more) = ap (λ (rest : List Parts). one.source ∷ rest) (urls_again (drop (length one.classes) paths) more)

pub ground_again : (it : Job) (grants : List Grant) (paths : List (List ℕ))
    → ground_of (record it { sources = with_classes paths it.sources }) grants ≡ record (ground_of it grants) { classes = replaced paths (ground_of it grants).classes }
unfolding ground_of
ground_again it grants paths =
    ap₂ (λ (urls : List Parts) (classes : List ClassPath). record {
      sources = urls;
      domains = map (granted it.cwd grants) urls;
      classes = classes;
      main = it.main;
      setting = record { schedule = it.schedule; cwd = it.cwd; heap = it.heap; depth = it.depth; steps = it.steps };
    }) (urls_again paths it.sources) (paths_again 0 paths it.sources)

-- ---- how many class files, and of which code sources

-- A job that was read has few class files, and its code sources are numbered in order.
abbrev pub Fine : JobSetup → Type 0
Fine g = ArePaths g.classes

pub is_fine : JobIsSmall → (text : List ℕ) (it : Job) (grants : List Grant) → job text ≡ Ok it → Fine (ground_of it grants)
is_fine small text it grants is = are_paths it grants (small text it is)
