-- A job that is stored with other paths, read again.
use Rattle.std.proofs.Common.{◌≡◌, ℕ, Bool, true, false, cond, List, [], ◌∷◌, Option, Some, None, Result, Ok, Err, IsUtf8, filter_map, flat_map, map, refl, sym, ap, ◌∙◌}
use Rattle.std.specs.List.{AllByRecursion}
use Rattle.std.specs.Str.{is_utf8}
use Rattle.std.specs.Str.Lossy.{utf8_valid_len}
use Rattle.std.proofs.lemmas.Str.{IsUtf8-from_is_utf8, is_utf8-from_IsUtf8}
use Rattle.jground.specs.jbase.FirstFaults.{first_some}
use Rattle.jjob.specs.declared.job.Job.{Job}
use Rattle.jjob.specs.declared.line.Said.{Said}
use Rattle.jjob.specs.Jobs.{cwd_in, depth_in, first_bad, heap_in, job, job_in, job_of, line_at, lines_of, main_in, picks_in, policy_in, prop_in, said_by, sources_of, steps_in, unless_bad, with_main}
use Rattle.jjob.specs.StoredJobText.{stored_job}
use Rattle.jjob_laws.specs.StoredJobs.{IsName, JobAgain, with_classes}
use Rattle.jjob_laws.proofs.PathIndependence.{Unseen, all_blank, blank, cwd_unseen, depth_unseen, first_blank, flat_blank, heap_unseen, main_unseen, picks_unseen, policy_unseen, prop_unseen, steps_unseen}
use Rattle.jjob_laws.proofs.StoredLineFaults.{Fine, blank_paths, fine_again, is_fine, none_bad, said_again}
use Rattle.jjob_laws.proofs.Lines.{IsLine, lines_again, lines_are, relined}
use Rattle.jjob_laws.proofs.PathReplacement.{with_paths}
use Rattle.jjob_laws.proofs.Sources.{sources_again}
use Rattle.jjob_laws.proofs.Utf8s.{lines_utf8, written_utf8}

lines_of_names : (paths : List (List ℕ)) → AllByRecursion IsName paths → AllByRecursion IsLine paths
lines_of_names [] h = tt
lines_of_names (path ∷ paths) h = (h.0.line, lines_of_names paths h.1)

texts_of_names : (paths : List (List ℕ)) → AllByRecursion IsName paths → AllByRecursion IsUtf8 paths
texts_of_names [] h = tt
texts_of_names (path ∷ paths) h = (h.0.text, texts_of_names paths h.1)

-- ---- what a job that is read says of its text

pub record IsRead (text : List ℕ) (it : Job) : Type 0 where
  pub utf8 : IsUtf8 text
  pub fine : first_bad (lines_of text) ≡ None
  pub main : List ℕ
  pub named : first_some main_in (said_by (lines_of text)) ≡ Some main
  pub job : it ≡ job_of (said_by (lines_of text)) main

abbrev found : Job → Result Job ℕ
found it = Ok it

ok_is : (a b : Job) → found a ≡ found b → a ≡ b
ok_is a b e = cc

read_in : (text : List ℕ) (it : Job) → IsUtf8 text → (bad : Option ℕ) (main : Option (List ℕ)) → first_bad (lines_of text) ≡ bad → first_some main_in (said_by (lines_of text)) ≡ main
    → unless_bad (lines_of text) bad ≡ Ok it → IsRead text it
read_in text it u (Some number) main b m e = cc
read_in text it u None None b m e = absurd (let x : with_main (lines_of text) None ≡ Ok it = ap (with_main (lines_of text)) (sym m) ∙ e in cc)
read_in text it u None (Some main) b m e = record {
  utf8 = u;
  fine = b;
  main = main;
  named = m;
  job = ok_is it (job_of (said_by (lines_of text)) main) (sym e ∙ ap (with_main (lines_of text)) m);
}

pub is_read : (text : List ℕ) (it : Job) → job text ≡ Ok it → IsRead text it
unfolding job job_in
is_read text it e = go (is_utf8 text) refl e
  where
    go : (b : Bool) → is_utf8 text ≡ b → cond b (job_in text) (Err (line_at text (utf8_valid_len text))) ≡ Ok it → IsRead text it
    go true u e = read_in text it (IsUtf8-from_is_utf8 text u) (first_bad (lines_of text)) (first_some main_in (said_by (lines_of text))) refl refl e
    go false u e = cc

reads : (text : List ℕ) (it : Job) → IsRead text it → job text ≡ Ok it
unfolding job job_in
reads text it r =
    ap (λ (b : Bool). cond b (job_in text) (Err (line_at text (utf8_valid_len text)))) (is_utf8-from_IsUtf8 text r.utf8)
    ∙ ap (unless_bad (lines_of text)) r.fine ∙ ap (with_main (lines_of text)) r.named ∙ ap (λ (j : Job). Ok j) (sym r.job)

-- ---- the job of what is said with other paths

module _ (old new : List Said) (same : map blank new ≡ map blank old) where
  one : {X : Type 0} (field : Said → Option X) → Unseen field → first_some field new ≡ first_some field old
  one field u = sym (first_blank field u new) ∙ ap (first_some field) same ∙ first_blank field u old

  many : {X : Type 0} (field : Said → Option X) → Unseen field → filter_map field new ≡ filter_map field old
  many field u = sym (all_blank field u new) ∙ ap (filter_map field) same ∙ all_blank field u old

  picks : flat_map picks_in new ≡ flat_map picks_in old
  picks = sym (flat_blank picks_in picks_unseen new) ∙ ap (flat_map picks_in) same ∙ flat_blank picks_in picks_unseen old

  same_job : (main : List ℕ) → job_of new main ≡ record (job_of old main) { sources = sources_of new }
  unfolding job_of
  same_job main =
      rw (one policy_in policy_unseen, many prop_in prop_unseen, one cwd_in cwd_unseen, picks, one heap_in heap_unseen, one depth_in depth_unseen, one steps_in steps_unseen) refl

module _ (text : List ℕ) (paths : List (List ℕ)) (it : Job) (r : IsRead text it) (names : AllByRecursion IsName paths) where
  abbrev lines : List (List ℕ)
  lines = lines_of text

  abbrev said : List Said
  said = said_by lines

  abbrev stored : List ℕ
  stored = stored_job text paths

  fine : Fine [] lines
  fine = is_fine lines r.fine

  lines_are_these : lines_of stored ≡ relined paths lines
  unfolding stored_job
  lines_are_these = lines_again paths lines (lines_of_names paths names) (lines_are text)

  stored_utf8 : IsUtf8 stored
  unfolding stored_job
  stored_utf8 = written_utf8 paths lines (texts_of_names paths names) (lines_utf8 text r.utf8)

  says_these : said_by (lines_of stored) ≡ with_paths paths said
  says_these = ap said_by lines_are_these ∙ said_again paths lines [] names fine

  none_is_bad : first_bad (lines_of stored) ≡ None
  none_is_bad = ap first_bad lines_are_these ∙ none_bad (relined paths lines) (fine_again paths lines [] [] names refl fine)

  same_main : first_some main_in (said_by (lines_of stored)) ≡ Some r.main
  same_main = ap (first_some main_in) says_these ∙ one said (with_paths paths said) (blank_paths paths said) main_in main_unseen ∙ r.named

  abbrev again : Job
  again = record it { sources = with_classes paths it.sources }

  job_again : again ≡ job_of (said_by (lines_of stored)) r.main
  unfolding job_of
  job_again =
      ap (λ (j : Job). record j { sources = with_classes paths j.sources }) r.job
      ∙ ap (λ (ss : _). record (job_of said r.main) { sources = ss }) (sym (sources_again paths lines fine))
      ∙ sym (same_job said (with_paths paths said) (blank_paths paths said) r.main) ∙ ap (λ (ss : List Said). job_of ss r.main) (sym says_these)

  read_again : job stored ≡ Ok again
  read_again = reads stored again (record { utf8 = stored_utf8; fine = none_is_bad; main = r.main; named = same_main; job = job_again })

pub stored_again : JobAgain
stored_again text paths it e names = read_again text paths it (is_read text it e) names
