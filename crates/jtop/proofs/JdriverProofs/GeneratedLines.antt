-- What a made job names: the policy and the class files that are made, and no other file. `P` is what is so of these.
use Rattle.std.proofs.Common.{◌≡◌, ℕ, zero, suc, ◌+◌, ◌≤◌, ◌<◌, Bool, true, false, cond, List, [], ◌∷◌, ◌++◌, length, Option, Some, None, Err, codes, decimal, option_map, option_to_list, refl, sym, ap, subst, ◌∙◌, arith, append_assoc, ne_eqb}
use Rattle.std.specs.Prelude.{IfOk, IfSome}
use Rattle.std.specs.List.{AllByRecursion}
use Rattle.std.specs.Result.{result_ok}
use Rattle.std.specs.Str.{is_utf8}
use Rattle.std.specs.Str.Lossy.{utf8_valid_len}
use Rattle.url.specs.Parts.{Parts}
use Rattle.jground.specs.jbase.FirstFaults.{first_some}
use Rattle.jdomain.specs.CodeSources.{source_of}
use Rattle.joutput.proofs.JtallyProofs.LineFeeds.{clean, clean_both, clean_decimal, first_line}
use Rattle.jgen.specs.GeneratedFiles.{base, job_text, path, source, sources}
use Rattle.jjob.specs.declared.job.Job.{Job}
use Rattle.jjob.specs.declared.job.JobSource.{JobSource}
use Rattle.jjob.specs.declared.line.Said.{Said}
use Rattle.jjob.specs.declared.line.Said.TheVariants.{Policy, Code, Class}
use Rattle.jjob.specs.JobLines.{code_said, is_kept, keyed, said_of}
use Rattle.jjob.specs.Jobs.{classes_here, first_bad, job, job_in, job_of, line_at, lines_of, main_in, policy_in, said_by, sources_of, unless_bad, with_main}
use Rattle.jjob_laws.proofs.PathReplacement.{said_cons}
use Rattle.jjob_laws.proofs.Words.{class_said}

-- ---- the lines of a code source

abbrev code_line : ℕ → List ℕ
code_line i = codes "code " ++ base i

abbrev class_line : ℕ → List ℕ
class_line i = codes "class " ++ path i

code_clean : (i : ℕ) → clean (code_line i) ≡ true
code_clean i = clean_both (decimal i) (codes "/") (clean_decimal i) refl

class_clean : (i : ℕ) → clean (class_line i) ≡ true
class_clean i = clean_both (decimal i) (codes ".class") (clean_decimal i) refl

source_lines : (i : ℕ) (rest : List ℕ) → source i ++ rest ≡ code_line i ++ 10 ∷ (class_line i ++ 10 ∷ rest)
source_lines i rest =
    append_assoc (code_line i ++ codes "\nclass " ++ path i) (codes "\n") rest ∙ append_assoc (code_line i ++ codes "\nclass ") (path i) (10 ∷ rest)
    ∙ append_assoc (code_line i) (codes "\nclass ") (path i ++ 10 ∷ rest)

code_said_of : (b : ℕ) (value : List ℕ) → said_of (codes "code " ++ b ∷ value) ≡ option_map Code (result_ok (source_of (b ∷ value)))
unfolding said_of keyed code_said
code_said_of b value = ap (λ (t : Bool). cond t None (option_map Code (result_ok (source_of (b ∷ value))))) (ne_eqb (suc (length value)) 0 (λ h. omega (arith, h)))

module _ (P : List ℕ → Type 0) where
  -- where it names a file, this is so of it
  abbrev Names : Said → Type 0
  Names (Policy at) = P at
  Names (Class at) = P at
  Names said = Unit {0}

  abbrev AreSo : List Said → Type 0
  AreSo said = AllByRecursion Names said

  -- ---- a job

  policy_so : (said : List Said) → AreSo said → IfSome (first_some policy_in said) P
  unfolding first_some
  policy_so [] h = tt
  policy_so (Policy at ∷ said) h = h.0
  policy_so (other ∷ said) h = policy_so said h.1

  here_so : (said : List Said) → AreSo said → AllByRecursion P (classes_here said)
  unfolding classes_here
  here_so [] h = tt
  here_so (Code source ∷ said) h = tt
  here_so (Class at ∷ said) h = (h.0, here_so said h.1)
  here_so (other ∷ said) h = here_so said h.1

  abbrev pub AreSources : List JobSource → Type 0
  AreSources sources = AllByRecursion (λ (s : JobSource). AllByRecursion P s.classes) sources

  sources_so : (said : List Said) → AreSo said → AreSources (sources_of said)
  unfolding sources_of
  sources_so [] h = tt
  sources_so (Code source ∷ said) h = (here_so said h.1, sources_so said h.1)
  sources_so (other ∷ said) h = sources_so said h.1

  abbrev pub JobNames : Job → Type 0
  JobNames it = IfSome it.policy P × AreSources it.sources

  job_so : (text : List ℕ) → AreSo (said_by (lines_of text)) → IfOk (job text) JobNames
  unfolding job job_in job_of
  job_so text h = by (is_utf8 text) (first_bad (lines_of text))
    where
      with_name : (main : Option (List ℕ)) → IfOk (with_main (lines_of text) main) JobNames
      with_name None = tt
      with_name (Some main) = (policy_so (said_by (lines_of text)) h, sources_so (said_by (lines_of text)) h)

      by : (b : Bool) (bad : Option ℕ) → IfOk (cond b (unless_bad (lines_of text) bad) (Err (line_at text (utf8_valid_len text)))) JobNames
      by false bad = tt
      by true (Some number) = tt
      by true None = with_name (first_some main_in (said_by (lines_of text)))

  -- ---- a text

  -- with one line more in front
  line_so : (line rest : List ℕ) → clean line ≡ true → IfSome (said_of line) Names → AreSo (said_by (lines_of rest)) → AreSo (said_by (lines_of (line ++ 10 ∷ rest)))
  line_so line rest ends one more =
      subst (λ (lines : List (List ℕ)). AreSo (said_by lines)) (sym (first_line line rest ends))
      (subst AreSo (sym (said_cons line (lines_of rest))) (by (is_kept line) (said_of line) one))
    where
      by : (kept : Bool) (o : Option Said) → IfSome o Names → AreSo (cond kept (option_to_list o) [] ++ said_by (lines_of rest))
      by false o one = more
      by true None one = more
      by true (Some said) one = (one, more)

  code_so : (o : Option Parts) → IfSome (option_map Code o) Names
  code_so None = tt
  code_so (Some parts) = tt

  module _ (size : ℕ) (policy : P (codes "gen.policy")) (classes : (i : ℕ) → i < size → P (path i)) where
    source_so : (i : ℕ) → i < size → (rest : List ℕ) → AreSo (said_by (lines_of rest)) → AreSo (said_by (lines_of (source i ++ rest)))
    source_so i small rest h =
        let url = 102 ∷ (codes "ile:/g" ++ decimal i ++ codes "/") in
        let code : IfSome (said_of (code_line i)) Names = subst (λ (o : Option Said). IfSome o Names) (sym (code_said_of 102 (codes "ile:/g" ++ decimal i ++ codes "/"))) (code_so (result_ok (source_of url))) in
        let class : IfSome (said_of (class_line i)) Names = subst (λ (o : Option Said). IfSome o Names) (sym (class_said 71 (decimal i ++ codes ".class"))) (classes i small) in
        subst (λ (text : List ℕ). AreSo (said_by (lines_of text))) (sym (source_lines i rest))
        (line_so (code_line i) (class_line i ++ 10 ∷ rest) (code_clean i) code (line_so (class_line i) rest (class_clean i) class h))

    sources_made : (i n : ℕ) → i + n ≤ size → (rest : List ℕ) → AreSo (said_by (lines_of rest)) → AreSo (said_by (lines_of (sources i n ++ rest)))
    unfolding sources
    sources_made i zero few rest h = h
    sources_made i (suc n) few rest h =
        subst (λ (text : List ℕ). AreSo (said_by (lines_of text))) (sym (append_assoc (source i) (sources (i + 1) n) rest))
        (source_so i (omega (arith, few)) (sources (i + 1) n ++ rest) (sources_made (i + 1) n (omega (arith, few)) rest h))

    text_so : AreSo (said_by (lines_of (job_text size)))
    unfolding said_by is_kept said_of keyed
    text_so =
        line_so (codes "policy gen.policy") (sources 0 size ++ codes "main G0\n") refl policy
        (sources_made 0 size (omega arith) (codes "main G0\n") (line_so (codes "main G0") [] refl tt tt))

    -- the job of a made text, if it has one, names what is made
    pub made_names : IfOk (job (job_text size)) JobNames
    made_names = job_so (job_text size) text_so
