-- The paths of class files, as a loop puts them one code source behind the other; they are few, and come in the order of their code sources.
use Rattle.std.proofs.Common.{◌≡◌, ℕ, suc, ◌+◌, ◌<◌, ◌≤◌, List, [], ◌∷◌, ◌++◌, length, refl, sym, ap, ap₂, ◌∙◌, append_assoc, length-append, arith}
use Rattle.std.proofs.lemmas.List.{append-nil, length-map}
use Rattle.std.proofs.lemmas.List.Sums.{sum_by-cons}
use Rattle.jpolicy.specs.declared.grant.Grant.{Grant}
use Rattle.jjob.specs.declared.job.Job.{Job}
use Rattle.jjob.specs.declared.job.JobSource.{JobSource}
use Rattle.jjob.specs.JobLimits.{IsWithin, classes_in}
use Rattle.jtasks.specs.declared.jstages.job_setup.ClassPath.{ClassPath}
use Rattle.jtasks.specs.jstages.JobPlans.{ArePaths, Rise, domains_of, ground_of, paths_from, paths_with}

next_place : (d n : ℕ) → (d + 1) + n ≡ d + suc n
next_place d n = omega arith

at_start : (d : ℕ) → d + 0 ≡ d
at_start d = omega arith

behind : (d : ℕ) (done : List JobSource) (one : JobSource) → paths_from d (done ++ one ∷ []) ≡ paths_from d done ++ paths_with (d + length done) one.classes
unfolding paths_from
behind d [] one = append-nil (paths_with d one.classes) ∙ ap (λ (n : ℕ). paths_with n one.classes) (sym (at_start d))
behind d (s ∷ done) one =
    ap (λ (r : List ClassPath). paths_with d s.classes ++ r) (behind (d + 1) done one ∙ ap (λ (n : ℕ). paths_from (d + 1) done ++ paths_with n one.classes) (next_place d (length done)))
    ∙ sym (append_assoc (paths_with d s.classes) (paths_from (d + 1) done) (paths_with (d + length (s ∷ done)) one.classes))

from_zero : (domain n : ℕ) → domain ≡ n → 0 + n ≡ domain
from_zero domain n is = omega arith

pub paths_more : (domain : ℕ) (done : List JobSource) (one : JobSource) → domain ≡ length done → paths_from 0 done ++ paths_with domain one.classes ≡ paths_from 0 (done ++ one ∷ [])
paths_more domain done one is = sym (behind 0 done one ∙ ap (λ (n : ℕ). paths_from 0 done ++ paths_with n one.classes) (from_zero domain (length done) is))

-- ---- how many there are, and of which code sources

length_from : (domain : ℕ) (sources : List JobSource) → length (paths_from domain sources) ≡ classes_in sources
unfolding paths_from
length_from domain [] = refl
length_from domain (one ∷ more) =
    let count : length (paths_with domain one.classes) ≡ length one.classes = length-map _ _ in
    length-append (paths_with domain one.classes) (paths_from (domain + 1) more)
    ∙ ap₂ (λ (a b : ℕ). a + b) count (length_from (domain + 1) more) ∙ sym (sum_by-cons (λ (s : JobSource). length s.classes) one more)

rise_less : (least n : ℕ) (more : List ℕ) → least ≤ n → Rise n more → Rise least more
rise_less least n [] le h = tt
rise_less least n (m ∷ more) le h = let k = h.0 in (omega arith, h.1)

rise_both : (least domain : ℕ) (paths : List (List ℕ)) (more : List ClassPath) → least ≤ domain → domain < 4096 → Rise domain (domains_of more)
    → Rise least (domains_of (paths_with domain paths ++ more))
rise_both least domain [] more le lt h = rise_less least domain (domains_of more) le h
rise_both least domain (path ∷ paths) more le lt h = (le, (lt, rise_both domain domain paths more (omega arith) lt h))

rise_from : (domain : ℕ) (sources : List JobSource) → domain + length sources ≤ 4096 → Rise domain (domains_of (paths_from domain sources))
unfolding paths_from
rise_from domain [] le = tt
rise_from domain (one ∷ more) le =
    let later = rise_from (domain + 1) more (omega arith) in
    rise_both domain domain one.classes (paths_from (domain + 1) more) (omega arith) (omega arith) (rise_less domain (domain + 1) (domains_of (paths_from (domain + 1) more)) (omega arith) later)

-- those of a job
pub are_paths : (it : Job) (grants : List Grant) → IsWithin it → ArePaths (ground_of it grants).classes
unfolding ground_of
are_paths it grants within = record {
  few = let n = within.classes in let m = length_from 0 it.sources in omega arith;
  rise = rise_from 0 it.sources (let n = within.codes in omega arith);
}
