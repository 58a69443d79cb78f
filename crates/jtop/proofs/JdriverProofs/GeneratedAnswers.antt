-- The answer to a made job has a status: its runs are told or refused, since no file that is read for them is missing or too long.
use Rattle.std.proofs.Common.{◌≡◌, ◌⊎◌, ℕ, ◌+◌, ◌≤◌, ◌<◌, Bool, true, false, true≢false, cond, List, [], ◌∷◌, Option, Some, None, Result, Ok, Err, bytes_eq, codes, length, map, refl, sym, ap, subst, ◌∙◌, arith, inl, inr}
use Rattle.std.specs.Prelude.{IfOk, IfSome, nat_le}
use Rattle.std.specs.List.{AllByRecursion, flat_map}
use Rattle.std.proofs.lemmas.Bool.{cases_Bool, leb-false, leb-true, le-leb}
use Rattle.std.proofs.lemmas.Slice.Eq.{bytes_eq-Decides}
use Rattle.jground.specs.declared.jformat.error.At.{At}
use Rattle.jground.specs.declared.jformat.error.Fault.{Fault}
use Rattle.jground.specs.jbase.ListMaps.{each}
use Rattle.jground.specs.jbase.MemoryFailures.{◌>>=◌}
use Rattle.jground.specs.jtext.Modified.{group}
use Rattle.joutput.specs.jio.ShelfFiles.{File, file_at, most_read}
use Rattle.joutput.specs.declared.jtally.counts.Tally.{Tally}
use Rattle.jperm.specs.declared.permission.Permission.{Permission}
use Rattle.jpolicy.specs.declared.fault.PolicyFault.{PolicyFault}
use Rattle.jpolicy.specs.declared.grant.Grant.{Grant}
use Rattle.jpolicy.specs.Policies.{policy}
use Rattle.jclass.specs.declared.class.ClassParts.{ClassParts}
use Rattle.jclass.specs.declared.fault.ClassFault.{ClassFault}
use Rattle.jclass.specs.Class.{class_file}
use Rattle.jgen.specs.declared.draws.Kind.{Kind}
use Rattle.jgen.specs.Draws.{kinds}
use Rattle.jgen.specs.GeneratedFiles as made_files
use Rattle.jgen.specs.GeneratedFiles.{class_files, grants, job_text, made_job, path}
use Rattle.jgen.proofs.DrawnKinds.{all_length}
use Rattle.jjob.specs.declared.command.Command.{Command}
use Rattle.jjob.specs.declared.command.Command.TheVariants as commands
use Rattle.jjob.specs.declared.command.Form.{Form}
use Rattle.jjob.specs.declared.command.Form.TheVariants.{Inspect, Pass, Plain}
use Rattle.jjob.specs.declared.job.Job.{Job}
use Rattle.jjob.specs.declared.job.JobSource.{JobSource}
use Rattle.jjob.specs.CommandWords.{Word, command}
use Rattle.jjob.specs.Jobs.{job}
use Rattle.jlib.specs.declared.side.Side.{Side}
use Rattle.jlinking.specs.jlink.LinkedPrograms.{link_fault}
use Rattle.jresolution.specs.declared.jprogram.fault.LinkFault.{LinkFault}
use Rattle.jresolution.specs.declared.jprogram.member.MethodId.{MethodId}
use Rattle.jresolution.specs.declared.jprogram.part.CodePart.{CodePart}
use Rattle.jresolution.specs.jprogram.ProgramClasses.{Program, program}
use Rattle.jresolution.specs.jprogram.MemberResolution.{main_of}
use Rattle.jresolution.proofs.JprogramProofs.ClassHeights.{all_append}
use Rattle.jtyping.specs.jwelltyped.VerifierTests as typing
use Rattle.jtyping.specs.jwelltyped.VerifierTests.{type_fault}
use Rattle.jrewriting.specs.declared.jrewrite.part.Place.{Place}
use Rattle.jrewriting.specs.jrewrite.RewrittenPrograms.{limits}
use Rattle.jsemantics.specs.declared.jmachine.plan.Plan.{Plan}
use Rattle.jshow.specs.declared.refusal.Refusal.{Refusal}
use Rattle.jshow.specs.declared.refusal.Refusal.TheVariants.{NoMain}
use Rattle.jshow.specs.declared.status.Status.TheVariants as statuses
use Rattle.jshow.specs.CommandAnswers.{listed}
use Rattle.jtasks.specs.declared.jstages.job_setup.ClassPath.{ClassPath}
use Rattle.jtasks.specs.declared.jstages.job_setup.JobSetup.{JobSetup}
use Rattle.jtasks.specs.declared.jtask.task.Task.{Task}
use Rattle.jtasks.specs.declared.jtask.task.Task.TheVariants as tasks
use Rattle.jtasks.specs.jstages.CheckStage.{checked, unless_untyped}
use Rattle.jtasks.specs.jstages.JobPlans.{ground_of, paths_from, paths_with, plan_of}
use Rattle.jtasks.specs.jstages.LinkStage.{linked, unless_broken}
use Rattle.jtasks.specs.jstages.ReadStage.{class_at, class_read, grants_at, grants_of, grants_read, ground_at, ground_in, job_read, part_at}
use Rattle.jtasks.specs.jstages.RewriteStage.{rewritten, unless_limited}
use Rattle.jtasks.specs.jstages.Stages.{Missing, Refused, Stopped, bytes_at, found, judged}
use Rattle.jtasks.specs.jtask.Tasks.{reads, run_at, run_in, run_of_ground, run_of_parts, runnable, side_of, task}
use Rattle.jstore.specs.GeneratedShelves.{as_held, held}
use Rattle.jtop.specs.jdriver.Answers.{HasStatus, IsSized, MadeHaveStatus, answer, answer_to, any_reads}
use Rattle.jtop.specs.jdriver.GeneratedRuns.{made, made_text, told, told_both, told_in, unless_stopped}
use Rattle.jtop.proofs.JdriverProofs.GeneratedLines.{AreSources, JobNames, made_names}
use Rattle.jtop.proofs.JdriverProofs.GeneratedSizes.{class_small, grants_small, job_small}
use Rattle.jtop.proofs.JdriverProofs.JobSizes.{words_sized}

-- ---- nothing is missing

-- There is something, of which this is so; or something is refused.
abbrev IsThere : {A : Type 0} → (A → Type 0) → Result A Stopped → Type 0
IsThere P (Ok a) = P a
IsThere P (Err Missing) = ⊥
IsThere P (Err (Refused refusal)) = Unit {0}

abbrev Any : {A : Type 0} → A → Type 0
Any a = Unit {0}

one_then : {A B : Type 0} (P : A → Type 0) (Q : B → Type 0) (r : Result A Stopped) (f : A → Result B Stopped) → IsThere P r → ((a : A) → P a → IsThere Q (f a)) → IsThere Q (r >>= f)
one_then P Q (Ok a) f h next = next a h
one_then P Q (Err Missing) f h next = absurd h
one_then P Q (Err (Refused refusal)) f h next = tt

-- ---- a program, and its run

judged_there : {A : Type 0} (refusal : Refusal) (o : Option A) → IsThere Any (judged refusal o)
judged_there refusal None = tt
judged_there refusal (Some a) = tt

linked_there : (p : Program) → IsThere Any (linked p)
unfolding linked
linked_there p = elim (link_fault p) as (λ (o : Option LinkFault). IsThere Any (unless_broken p o)) [ None ↦ tt | Some fault ↦ tt ]

checked_there : (p : Program) → IsThere Any (checked p)
unfolding checked
checked_there p = elim (type_fault p) as (λ (o : Option typing.Place). IsThere Any (unless_untyped p o)) [ None ↦ tt | Some place ↦ tt ]

rewritten_there : (p : Program) → IsThere Any (rewritten p)
unfolding rewritten
rewritten_there p = elim (limits p) as (λ (o : Option Place). IsThere Any (unless_limited p o)) [ None ↦ tt | Some place ↦ tt ]

abbrev ok_both : Program → MethodId → Result (Program × MethodId) Stopped
ok_both p main = Ok (p, main)

runnable_there : (side : Side) (name : List ℕ) (parts : List CodePart) → IsThere Any (runnable side name parts)
runnable_there side name parts =
    one_then Any Any (linked (program side parts)) (λ p. judged (NoMain name) (main_of p (flat_map group name)) >>= λ main. checked p >>= λ q. ok_both q main) (linked_there (program side parts))
    (λ p h. one_then Any Any (judged (NoMain name) (main_of p (flat_map group name))) (λ main. checked p >>= λ q. ok_both q main) (judged_there (NoMain name) (main_of p (flat_map group name)))
    (λ main h. one_then Any Any (checked p) (λ q. ok_both q main) (checked_there p) (λ q h. tt)))

-- something is told of the run
abbrev IsTold : Task → Type 0
IsTold it = IsThere Any (found (told it))

abbrev ok_task : Task → Result Task Stopped
ok_task it = Ok it

run_told : (form : Form) (p : Program) (domains : List (List Permission)) (plan : Plan) → IsThere IsTold (run_in form p domains plan)
unfolding told
run_told Inspect p domains plan = tt
run_told Plain p domains plan = tt
run_told Pass p domains plan = one_then Any IsTold (rewritten p) (λ q. ok_task (tasks.RunPass q domains plan)) (rewritten_there p) (λ q h. tt)

grants_judged : (r : Result (List Grant) (At PolicyFault)) → IsThere Any (grants_read r)
grants_judged (Ok grants) = tt
grants_judged (Err fault) = tt

abbrev ok_part : CodePart → Result CodePart Stopped
ok_part part = Ok part

abbrev with_class : ClassPath → Result ClassParts Stopped → Result CodePart Stopped
with_class one r = r >>= λ class. ok_part (record { domain = one.domain; class = class })

class_judged : (one : ClassPath) (bytes : List ℕ) (r : Result ClassParts (Fault ClassFault)) → IsThere Any (with_class one (class_read one.path bytes r))
class_judged one bytes (Ok class) = tt
class_judged one bytes (Err fault) = tt

abbrev ok_parts : List CodePart → Result (List CodePart) Stopped
ok_parts parts = Ok parts

abbrev ok_ground : JobSetup → Result JobSetup Stopped
ok_ground g = Ok g

abbrev ok_tallies : Tally → Tally → Result (Tally × Tally) Stopped
ok_tallies first second = Ok (first, second)

-- ---- over files

module _ (files : List File) where
  -- a file is there, and not too long
  abbrev CanRead : List ℕ → Type 0
  CanRead at = (bytes : List ℕ) × (file_at files at ≡ Some bytes) × (length bytes ≤ most_read)

  bytes_read : (at : List ℕ) (can : CanRead at) → bytes_at files at ≡ Ok can.0
  bytes_read at can =
      let short : Option (List ℕ) → Option (List ℕ) = λ o. elim o [ None ↦ None | Some bytes ↦ cond (nat_le (length bytes) most_read) (Some bytes) None ] in
      ap (λ (o : Option (List ℕ)). found (short o)) can.1 ∙ ap (λ (b : Bool). found (cond b (Some can.0) None)) (le-leb (length can.0) most_read can.2)

  grants_there : (props : List (List ℕ × List ℕ)) (o : Option (List ℕ)) → IfSome o CanRead → IsThere Any (grants_of files props o)
  grants_there props None can = tt
  grants_there props (Some at) can =
      subst (λ (r : Result (List ℕ) Stopped). IsThere Any (r >>= λ bytes. grants_read (policy props bytes))) (sym (bytes_read at can)) (grants_judged (policy props can.0))

  part_there : (one : ClassPath) → CanRead one.path → IsThere Any (part_at files one)
  unfolding part_at class_at
  part_there one can =
      subst (λ (r : Result (List ℕ) Stopped). IsThere Any (with_class one (r >>= λ bytes. class_read one.path bytes (class_file.read bytes)))) (sym (bytes_read one.path can))
      (class_judged one can.0 (class_file.read can.0))

  abbrev AreThere : List ClassPath → Type 0
  AreThere classes = AllByRecursion (λ (one : ClassPath). CanRead one.path) classes

  parts_there : (classes : List ClassPath) → AreThere classes → IsThere Any (each (part_at files) classes)
  unfolding each
  parts_there [] h = tt
  parts_there (one ∷ more) h =
      one_then Any Any (part_at files one) (λ y. each (part_at files) more >>= λ ys. ok_parts (y ∷ ys)) (part_there one h.0)
      (λ y k. one_then Any Any (each (part_at files) more) (λ ys. ok_parts (y ∷ ys)) (parts_there more h.1) (λ ys k. tt))

  with_paths : (domain : ℕ) (paths : List (List ℕ)) → AllByRecursion CanRead paths → AreThere (paths_with domain paths)
  with_paths domain [] h = tt
  with_paths domain (at ∷ paths) h = (h.0, with_paths domain paths h.1)

  paths_there : (domain : ℕ) (sources : List JobSource) → AreSources CanRead sources → AreThere (paths_from domain sources)
  unfolding paths_from
  paths_there domain [] h = tt
  paths_there domain (source ∷ sources) h =
      all_append (λ (one : ClassPath). CanRead one.path) (paths_with domain source.classes) (paths_from (domain + 1) sources) (with_paths domain source.classes h.0)
      (paths_there (domain + 1) sources h.1)

  abbrev HasClasses : JobSetup → Type 0
  HasClasses g = AreThere g.classes

  ground_there : (text : List ℕ) → IfOk (job text) (JobNames CanRead) → IsThere HasClasses (ground_in files text)
  unfolding ground_in grants_at ground_of
  ground_there text names = by (job text) names
    where
      by : (r : Result Job ℕ) → IfOk r (JobNames CanRead) → IsThere HasClasses (job_read r >>= λ it. grants_of files it.props it.policy >>= λ grants. ok_ground (ground_of it grants))
      by (Err line) names = tt
      by (Ok it) names =
          one_then Any HasClasses (grants_of files it.props it.policy) (λ grants. ok_ground (ground_of it grants)) (grants_there it.props it.policy names.0)
          (λ grants h. paths_there 0 it.sources names.1)

  -- ---- the runs of a job that names files that are there

  module _ (text : List ℕ) (is : bytes_at files (codes "gen.job") ≡ Ok text) (names : IfOk (job text) (JobNames CanRead)) where
    setup_there : IsThere HasClasses (ground_at files (codes "gen.job"))
    unfolding ground_at
    setup_there = subst (λ (r : Result (List ℕ) Stopped). IsThere HasClasses (r >>= λ bytes. ground_in files bytes)) (sym is) (ground_there text names)

    task_there : (form : Form) → IsThere IsTold (task (commands.Run form (codes "gen.job")) files)
    unfolding task run_at run_of_ground
    task_there form =
        one_then HasClasses IsTold (ground_at files (codes "gen.job")) (λ g. each (part_at files) g.classes >>= λ parts. run_of_parts form g parts) setup_there
        (λ g are. one_then Any IsTold (each (part_at files) g.classes) (λ parts. run_of_parts form g parts) (parts_there g.classes are)
        (λ parts h. one_then Any IsTold (runnable (side_of form) g.main parts) (λ it. run_in form it.0 g.domains (plan_of g.setting it.1)) (runnable_there (side_of form) g.main parts)
        (λ it h. run_told form it.0 g.domains (plan_of g.setting it.1))))

    run_there : (form : Form) → IsThere Any (told_in files form)
    unfolding told_in
    run_there form = one_then IsTold Any (task (commands.Run form (codes "gen.job")) files) (λ it. found (told it)) (task_there form) (λ it h. h)

    both_there : IsThere Any (told_both files)
    unfolding told_both
    both_there =
        one_then Any Any (told_in files Inspect) (λ first. told_in files Pass >>= λ second. ok_tallies first second) (run_there Inspect)
        (λ first h. one_then Any Any (told_in files Pass) (λ second. ok_tallies first second) (run_there Pass) (λ second h. tt))

-- ---- the files of a made job

can_read : (file : File) (files : List File) (at : List ℕ) → length file.bytes ≤ most_read → (bytes_eq file.path at ≡ true) ⊎ CanRead files at → CanRead (file ∷ files) at
can_read file files at short (inl same) = (file.bytes, ap (λ (b : Bool). cond b (Some file.bytes) (file_at files at)) same, short)
can_read file files at short (inr can) = by (bytes_eq file.path at)
  where
    by : (b : Bool) → (bytes : List ℕ) × (cond b (Some file.bytes) (file_at files at) ≡ Some bytes) × (length bytes ≤ most_read)
    by true = (file.bytes, refl, short)
    by false = can

class_there : (size from : ℕ) (ks : List Kind) (i : ℕ) → size ≤ 1000 → from ≤ i → i < from + length ks → CanRead (map as_held (class_files size from ks)) (path i)
unfolding class_files
class_there size from [] i few low high = absurd (omega (arith, low, high))
class_there size from (k ∷ ks) i few low high =
    can_read (as_held (made_files.class_file size from k)) (map as_held (class_files size (from + 1) ks)) (path i) (class_small size from k few)
    (by (cases_Bool (nat_le i from)) (class_there size (from + 1) ks i few))
  where
    by : (nat_le i from ≡ true) ⊎ (nat_le i from ≡ false) → (from + 1 ≤ i → i < from + 1 + length ks → CanRead (map as_held (class_files size (from + 1) ks)) (path i))
        → (bytes_eq (path from) (path i) ≡ true) ⊎ CanRead (map as_held (class_files size (from + 1) ks)) (path i)
    by (inl below) later =
        let under = leb-true i from below in
        let same : from ≡ i = omega (arith, low, under) in
        inl ((bytes_eq-Decides (path from) (path i)).1 (ap (λ (n : ℕ). path n) same))
    by (inr above) later =
        let over = leb-false i from above in
        inr (later (omega (arith, over)) (omega (arith, high)))

-- ---- the answer

answered : (size : ℕ) (r : Result (Tally × Tally) Stopped) → IsThere Any r → HasStatus (unless_stopped (λ both. listed (made_text size both.0 both.1)) r)
answered size (Ok both) h = (statuses.Finished, refl)
answered size (Err Missing) h = absurd h
answered size (Err (Refused refusal)) h = (statuses.Refused, refl)

module _ (seed size : ℕ) (few : size ≤ 1000) where
  abbrev job_file : File
  job_file = record { path = codes "gen.job"; bytes = job_text size }

  abbrev policy_file : File
  policy_file = record { path = codes "gen.policy"; bytes = grants 0 (kinds seed size) }

  abbrev classes_held : List File
  classes_held = map as_held (class_files size 0 (kinds seed size))

  abbrev MadeReads : List ℕ → Type 0
  MadeReads at = CanRead (job_file ∷ policy_file ∷ classes_held) at

  kinds_many : length (kinds seed size) ≡ size
  kinds_many = all_length seed size (kinds seed size) refl

  policy_small : length (grants 0 (kinds seed size)) ≤ most_read
  policy_small = omega (arith, few, grants_small 0 (kinds seed size), kinds_many)

  has_policy : MadeReads (codes "gen.policy")
  has_policy = (grants 0 (kinds seed size), refl, policy_small)

  has_class : (i : ℕ) → i < size → MadeReads (path i)
  has_class i small =
      can_read job_file (policy_file ∷ classes_held) (path i) (job_small size few)
      (inr (can_read policy_file classes_held (path i) policy_small (inr (class_there size 0 (kinds seed size) i few (omega arith) (omega (arith, small, kinds_many))))))

  both_told : IsThere Any (told_both (held seed size))
  unfolding held made_job
  both_told =
      let files = job_file ∷ policy_file ∷ classes_held in
      both_there files (job_text size) (bytes_read files (codes "gen.job") (job_text size, refl, job_small size few)) (made_names MadeReads size has_policy has_class)

  has_status : HasStatus (made seed size)
  unfolding made
  has_status = answered size (told_both (held seed size)) both_told

pub made_have_status : MadeHaveStatus
made_have_status seed size few = has_status seed size few

-- ---- commands and words that read no file

pub command_status : MadeHaveStatus → (c : Command) → IsSized c → reads c ≡ false → (files : List File) → HasStatus (answer c files)
unfolding answer
command_status law (commands.Gen seed size) sized none files = law seed size sized.1
command_status law (commands.Run form at) sized none files = absurd (true≢false none)
command_status law (commands.Check form at) sized none files = absurd (true≢false none)
command_status law (commands.Rewrite at to) sized none files = absurd (true≢false none)
command_status law (commands.Policy at) sized none files = absurd (true≢false none)

pub words_status : MadeHaveStatus → (words : List Word) → any_reads (command words) ≡ false → (files : List File) → HasStatus (answer_to (command words) files)
words_status law words none files = by (command words) refl none
  where
    by : (o : Option Command) → command words ≡ o → any_reads o ≡ false → HasStatus (answer_to o files)
    by None is none = (statuses.Usage, refl)
    by (Some c) is none = command_status law c (words_sized words c is) none files
