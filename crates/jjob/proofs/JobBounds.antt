-- A job has no more code sources and class files than it may have: a line that names one more is bad.
use Rattle.std.proofs.Common.{◌≡◌, ◌∙◌, ℕ, suc, ◌+◌, ◌<◌, ◌≤◌, ◌==◌, ◌||◌, Bool, true, false, cond, List, [], ◌∷◌, ◌++◌, Option, Some, None, filter_map, length, refl, sym, ap, subst, arith, append_assoc, append-nil, leb-false, zero-add}
use Rattle.std.specs.Prelude.{Result, Ok, Err, IfOk, nat_le}
use Rattle.std.specs.List.{cons_option}
use Rattle.std.specs.Str.{is_utf8}
use Rattle.std.specs.Str.Lossy.{utf8_valid_len}
use Rattle.std.proofs.lemmas.List.{length-append}
use Rattle.std.proofs.lemmas.List.Elements.{filter_map-append}
use Rattle.std.proofs.lemmas.List.Sums.{sum_by-cons}
use Rattle.jground.specs.jbase.FirstFaults.{fault_if, first_along, first_some, or_else}
use Rattle.jjob.specs.JobLimits.{IsWithin, classes_in, most_classes, most_codes}
use Rattle.jjob.specs.declared.job.Job.{Job}
use Rattle.jjob.specs.declared.job.JobError.{JobError}
use Rattle.jjob.specs.declared.job.JobSource.{JobSource}
use Rattle.jjob.specs.declared.line.Said.{Said}
use Rattle.jjob.specs.declared.line.Said.TheVariants.{Policy, Prop, Cwd, Code, Class, Main, Schedule, Heap, Depth, Steps}
use Rattle.jjob.specs.JobLines.{is_kept, said_of}
use Rattle.jjob.specs.Jobs.{JobGives, bad_behind, clashes, class_in, classes_here, code_in, count_of, first_bad, job, job_in, job_of, line_at}
use Rattle.jjob.specs.Jobs.{lines_of, main_in, said_by, sources_of, unless_bad, with_main}
use Rattle.jjob.proofs.JobParser.{along_step, longer, said_here, said_more, test, test_here}

-- ---- no more of a kind than there may be

-- what says something of a kind is no clash only where fewer were said before
abbrev Rooms : {X : Type 0} → (Said → Option X) → ℕ → Type 0
Rooms {X} field most = (before : List Said) (s : Said) (x : X) → clashes before s ≡ false → field s ≡ Some x → count_of field before < most

unfaulted : (b : Bool) (n : ℕ) (o : Option ℕ) → or_else (fault_if b n) o ≡ None → (b ≡ false) × (o ≡ None)
unfaulted true n o h = absurd (let x = h in cc)
unfaulted false n o h = (refl, h)

bad_said : (before : List (List ℕ)) (line : List ℕ) (x : Said) → is_kept line ≡ true → said_of line ≡ Some x → bad_behind before line ≡ clashes (said_by before) x
bad_said before line x k s = rw (k, s) refl

bad_nothing : (before : List (List ℕ)) (line : List ℕ) → is_kept line ≡ true → said_of line ≡ None → bad_behind before line ≡ true
bad_nothing before line k s = rw (k, s) refl

not_both : (b : Bool) → b ≡ true → b ≡ false → ⊥
not_both true t f = cc
not_both false t f = cc

module _ {X : Type 0} (field : Said → Option X) (most : ℕ) (room : Rooms field most) where
  one_more : (before : List Said) (s : Said) → count_of field (before ++ s ∷ []) ≡ count_of field before + length (cons_option (field s) [])
  one_more before s = ap length (filter_map-append field before (s ∷ [])) ∙ length-append (filter_map field before) (cons_option (field s) [])

  more_fits : (before : List Said) (s : Said) → clashes before s ≡ false → count_of field before ≤ most → count_of field (before ++ s ∷ []) ≤ most
  more_fits before s fits le = go (field s) refl
    where
      go : (o : Option X) → field s ≡ o → count_of field (before ++ s ∷ []) ≤ most
      go None is = let n : count_of field (before ++ s ∷ []) ≡ count_of field before + 0 = one_more before s ∙ ap (λ (o : Option X). count_of field before + length (cons_option o [])) is in omega arith
      go (Some x) is =
          let n : count_of field (before ++ s ∷ []) ≡ count_of field before + 1 = one_more before s ∙ ap (λ (o : Option X). count_of field before + length (cons_option o [])) is in
          let lt = room before s x fits is in
          omega arith

  abbrev Fits : List Said → Type 0
  Fits said = count_of field said ≤ most

  -- one line more
  line_fits : (before : List (List ℕ)) (line : List ℕ) → bad_behind before line ≡ false → Fits (said_by before) → Fits (said_by (before ++ line ∷ []))
  line_fits before line good le = go (is_kept line) (said_of line) refl refl
    where
      whole : (kept : Bool) (o : Option Said) → is_kept line ≡ kept → said_of line ≡ o → said_by before ++ cond kept (cons_option o []) [] ≡ said_by (before ++ line ∷ [])
      whole kept o k s = sym (said_more before line ∙ ap (λ (l : List Said). said_by before ++ l) (said_here line kept k ∙ ap (λ (x : Option Said). cond kept (cons_option x []) []) s))

      go : (kept : Bool) (o : Option Said) → is_kept line ≡ kept → said_of line ≡ o → Fits (said_by (before ++ line ∷ []))
      go false o k s = subst Fits (sym (append-nil (said_by before)) ∙ whole false o k s) le
      go true None k s = absurd (not_both (bad_behind before line) (bad_nothing before line k s) good)
      go true (Some x) k s = subst Fits (whole true (Some x) k s) (more_fits (said_by before) x (sym (bad_said before line x k s) ∙ good) le)

  lines_fit : (all before left : List (List ℕ)) → before ++ left ≡ all → first_along (test bad_behind all) (length before) left ≡ None → Fits (said_by before) → Fits (said_by all)
  lines_fit all before [] whole none le = subst (λ (ls : List (List ℕ)). Fits (said_by ls)) (sym (append-nil before) ∙ whole) le
  lines_fit all before (line ∷ more) whole none le =
      let later = first_along (test bad_behind all) (length before + 1) more in
      let first : or_else (fault_if (bad_behind before line) (length before + 1)) later ≡ None
      = ap (λ (o : Option ℕ). or_else o later) (sym (test_here bad_behind all before (line ∷ more) line whole)) ∙ sym (along_step (test bad_behind all) (length before) line more) ∙ none in
      let good = unfaulted (bad_behind before line) (length before + 1) later first in
      lines_fit all (before ++ line ∷ []) more (append_assoc before (line ∷ []) more ∙ whole)
      (ap (λ (i : ℕ). first_along (test bad_behind all) i more) (longer before line) ∙ good.1) (line_fits before line good.0 le)

  nothing_fits : Fits []
  nothing_fits = omega arith

  none_fits : Fits (said_by [])
  unfolding said_by
  none_fits = nothing_fits

  all_fit : (lines : List (List ℕ)) → first_bad lines ≡ None → Fits (said_by lines)
  unfolding first_bad
  all_fit lines none = lines_fit lines [] lines refl none none_fits

codes_room : Rooms code_in most_codes
unfolding clashes
codes_room before (Policy v) x f is = cc
codes_room before (Prop v w) x f is = cc
codes_room before (Cwd v) x f is = cc
codes_room before (Code v) x f is = leb-false most_codes (count_of code_in before) f
codes_room before (Class v) x f is = cc
codes_room before (Main v) x f is = cc
codes_room before (Schedule v) x f is = cc
codes_room before (Heap v) x f is = cc
codes_room before (Depth v) x f is = cc
codes_room before (Steps v) x f is = cc

second_false : (a b : Bool) → (a || b) ≡ false → b ≡ false
second_false true b e = cc
second_false false b e = e

classes_room : Rooms class_in most_classes
unfolding clashes
classes_room before (Policy v) x f is = cc
classes_room before (Prop v w) x f is = cc
classes_room before (Cwd v) x f is = cc
classes_room before (Code v) x f is = cc
classes_room before (Class v) x f is = leb-false most_classes (count_of class_in before) (second_false (count_of code_in before == 0) (nat_le most_classes (count_of class_in before)) f)
classes_room before (Main v) x f is = cc
classes_room before (Schedule v) x f is = cc
classes_room before (Heap v) x f is = cc
classes_room before (Depth v) x f is = cc
classes_room before (Steps v) x f is = cc

-- ---- what the job has

sources_count : (said : List Said) → length (sources_of said) ≡ count_of code_in said
unfolding sources_of
sources_count [] = refl
sources_count (Policy v ∷ said) = sources_count said
sources_count (Prop v w ∷ said) = sources_count said
sources_count (Cwd v ∷ said) = sources_count said
sources_count (Code v ∷ said) = ap suc (sources_count said)
sources_count (Class v ∷ said) = sources_count said
sources_count (Main v ∷ said) = sources_count said
sources_count (Schedule v ∷ said) = sources_count said
sources_count (Heap v ∷ said) = sources_count said
sources_count (Depth v ∷ said) = sources_count said
sources_count (Steps v ∷ said) = sources_count said

abbrev counted : List Said → ℕ
counted said = length (classes_here said) + classes_in (sources_of said)

classes_count : (said : List Said) → counted said ≡ count_of class_in said
unfolding sources_of classes_here
classes_count [] = refl
classes_count (Policy v ∷ said) = classes_count said
classes_count (Prop v w ∷ said) = classes_count said
classes_count (Cwd v ∷ said) = classes_count said
classes_count (Code v ∷ said) = zero-add _ ∙ sum_by-cons (λ (s : JobSource). length s.classes) (record { source = v; classes = classes_here said }) (sources_of said) ∙ classes_count said
classes_count (Class v ∷ said) = let n = classes_count said in omega arith
classes_count (Main v ∷ said) = classes_count said
classes_count (Schedule v ∷ said) = classes_count said
classes_count (Heap v ∷ said) = classes_count said
classes_count (Depth v ∷ said) = classes_count said
classes_count (Steps v ∷ said) = classes_count said

few_codes : (said : List Said) → count_of code_in said ≤ most_codes → length (sources_of said) ≤ most_codes
few_codes said le = let n = sources_count said in omega arith

few_classes : (said : List Said) → count_of class_in said ≤ most_classes → classes_in (sources_of said) ≤ most_classes
few_classes said le = let n = classes_count said in omega arith

within_said : (said : List Said) (main : List ℕ) → count_of code_in said ≤ most_codes → count_of class_in said ≤ most_classes → IsWithin (job_of said main)
unfolding job_of
within_said said main codes classes = record { codes = few_codes said codes; classes = few_classes said classes }

-- ---- jobs

abbrev ok_job : Job → Result Job ℕ
ok_job j = Ok j

ok_is : (a b : Job) → ok_job a ≡ ok_job b → a ≡ b
ok_is a b e = cc

within_main : (lines : List (List ℕ)) (main : Option (List ℕ)) (j : Job) → first_bad lines ≡ None → with_main lines main ≡ Ok j → IsWithin j
within_main lines None j none is = absurd (let x = is in cc)
within_main lines (Some main) j none is =
    subst IsWithin (ok_is (job_of (said_by lines) main) j is)
    (within_said (said_by lines) main (all_fit code_in most_codes codes_room lines none) (all_fit class_in most_classes classes_room lines none))

within_lines : (lines : List (List ℕ)) (bad : Option ℕ) (j : Job) → first_bad lines ≡ bad → unless_bad lines bad ≡ Ok j → IsWithin j
within_lines lines None j none is = within_main lines (first_some main_in (said_by lines)) j none is
within_lines lines (Some number) j none is = absurd (let x = is in cc)

within_text : (text : List ℕ) (j : Job) → job_in text ≡ Ok j → IsWithin j
unfolding job_in
within_text text j is = within_lines (lines_of text) (first_bad (lines_of text)) j refl is

-- every job is
pub within : (bytes : List ℕ) (j : Job) → job bytes ≡ Ok j → IsWithin j
unfolding job
within bytes j is = go (is_utf8 bytes) is
  where
    go : (b : Bool) → cond b (job_in bytes) (Err (line_at bytes (utf8_valid_len bytes))) ≡ Ok j → IsWithin j
    go true is = within_text bytes j is
    go false is = absurd (let x = is in cc)

-- so is one that was read
pub read_within : (text : List ℕ) (result : Result Job JobError) → JobGives result (job_in text) → IfOk result IsWithin
read_within text (Ok j) gives = within_text text j gives
read_within text (Err e) gives = tt
