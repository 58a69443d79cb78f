-- What a rewriting that is answered rests on.
use Rattle.std.proofs.Common.{◌≡◌, ℕ, List, Option, Some, None, Result, Ok, Err, refl, sym, ap, ◌∙◌, subst}
use Rattle.jground.specs.jbase.ListMaps.{each}
use Rattle.jground.specs.jbase.MemoryFailures.{◌>>=◌}
use Rattle.joutput.specs.jio.ShelfFiles.{File, readable}
use Rattle.jlib.specs.declared.side.Side.TheVariants.{Source}
use Rattle.jlinking.specs.jlink.LinkedPrograms.{link_fault}
use Rattle.jpolicy.specs.declared.grant.Grant.{Grant}
use Rattle.jresolution.specs.declared.jprogram.fault.LinkFault.{LinkFault}
use Rattle.jresolution.specs.declared.jprogram.part.CodePart.{CodePart}
use Rattle.jresolution.specs.jprogram.ProgramClasses.{Program, program}
use Rattle.jtyping.specs.jwelltyped.VerifierTests as typing
use Rattle.jtyping.specs.jwelltyped.VerifierTests.{type_fault}
use Rattle.jrewriting.specs.declared.jrewrite.part.Place.{Place}
use Rattle.jrewriting.specs.jrewrite.RewrittenPrograms.{limits, moved}
use Rattle.jjob.specs.declared.command.Command.TheVariants as commands
use Rattle.jjob.specs.declared.job.Job.{Job}
use Rattle.jjob.specs.Jobs.{job}
use Rattle.jshow.specs.declared.status.Status.TheVariants.{Finished}
use Rattle.jtasks.specs.declared.jstages.job_setup.JobSetup.{JobSetup}
use Rattle.jtasks.specs.declared.jtask.task.Task.{Task}
use Rattle.jtasks.specs.declared.jtask.task.Task.TheVariants as tasks
use Rattle.jtasks.specs.jstages.CheckStage.{checked, unless_untyped}
use Rattle.jtasks.specs.jstages.JobPlans.{ground_of}
use Rattle.jtasks.specs.jstages.LinkStage.{linked, unless_broken}
use Rattle.jtasks.specs.jstages.RewriteStage.{rewritten, unless_limited}
use Rattle.jtasks.specs.jstages.Stages.{Missing, Refused, Stopped, bytes_at}
use Rattle.jtasks.specs.jstages.ReadStage.{grants_at, ground_in, job_read, part_at}
use Rattle.jtasks.specs.jtask.Tasks.{moved_of_parts, rewrite_at, rewrite_of_ground, rewrite_of_parts, rewrite_of_text, task}
use Rattle.jstore.specs.Folders.{files_below}
use Rattle.jstore.proofs.Binds.{bound}
use Rattle.jtop.specs.jdriver.Answers.{answer, shown}
use Rattle.jtop.proofs.JdriverProofs.ProgramParts.{found_is}
use Rattle.jtop.specs.jdriver.GeneratedRuns.{unless_stopped}

-- ---- stage by stage

abbrev ok_task : Task → Result Task Stopped
ok_task t = Ok t

abbrev ok_program : Program → Result Program Stopped
ok_program p = Ok p

abbrev ok_job : Job → Result Job ℕ
ok_job it = Ok it

abbrev ok_ground : JobSetup → Result JobSetup Stopped
ok_ground g = Ok g

pub job_is : (r : Result Job ℕ) (it : Job) → job_read r ≡ Ok it → r ≡ ok_job it
job_is (Ok other) it e = let x = e in cc
job_is (Err line) it e = absurd (let x = e in cc)

unbroken : (p q : Program) (o : Option LinkFault) → unless_broken p o ≡ ok_program q → (p ≡ q) × (o ≡ None)
unbroken p q None e = let x = e in (cc, refl)
unbroken p q (Some fault) e = absurd (let x = e in cc)

untyped : (p q : Program) (o : Option typing.Place) → unless_untyped p o ≡ ok_program q → (p ≡ q) × (o ≡ None)
untyped p q None e = let x = e in (cc, refl)
untyped p q (Some place) e = absurd (let x = e in cc)

unlimited : (p q : Program) (o : Option Place) → unless_limited p o ≡ ok_program q → (moved p ≡ q) × (o ≡ None)
unlimited p q None e = let x = e in (cc, refl)
unlimited p q (Some place) e = absurd (let x = e in cc)

pub links : (p q : Program) → linked p ≡ ok_program q → (p ≡ q) × (link_fault p ≡ None)
unfolding linked
links p q e = unbroken p q (link_fault p) e

pub types : (p q : Program) → checked p ≡ ok_program q → (p ≡ q) × (type_fault p ≡ None)
unfolding checked
types p q e = untyped p q (type_fault p) e

pub small : (p q : Program) → rewritten p ≡ ok_program q → (moved p ≡ q) × (limits p ≡ None)
unfolding rewritten
small p q e = unlimited p q (limits p) e

-- a program that is moved
pub record IsMoved (p q : Program) : Type 0 where
  pub links : link_fault p ≡ None
  pub types : type_fault p ≡ None
  pub limits : limits p ≡ None
  pub same : moved p ≡ q

is_moved : (parts : List CodePart) (q : Program) → moved_of_parts parts ≡ ok_program q → IsMoved (program Source parts) q
is_moved parts q e =
    let p = program Source parts in
    let a = bound (linked p) (λ x. checked x >>= λ y. rewritten y) q e in
    let l = links p a.0 a.1 in
    let b = bound (checked a.0) (λ y. rewritten y) q a.2 in
    let t = types a.0 b.0 b.1 in
    let s = small b.0 q b.2 in
    let first : a.0 ≡ p = sym l.0 in
    let second : b.0 ≡ p = sym t.0 ∙ first in
    record {
      links = l.1;
      types = subst (λ (x : Program). type_fault x ≡ None) first t.1;
      limits = subst (λ (x : Program). limits x ≡ None) second s.1;
      same = subst (λ (x : Program). moved x ≡ q) second s.0;
    }

-- ---- a rewriting

-- what was read for it, and the program that was moved
pub record Rewrites (files : List File) (path to : List ℕ) : Type 0 where
  pub text : List ℕ
  pub it : Job
  pub grants : List Grant
  pub parts : List CodePart
  pub read : readable files path ≡ Some text
  pub job : job text ≡ Ok it
  pub granted : grants_at files it ≡ Ok grants
  pub classes : each (part_at files) (ground_of it grants).classes ≡ Ok parts
  pub links : link_fault (program Source parts) ≡ None
  pub types : type_fault (program Source parts) ≡ None
  pub limits : limits (program Source parts) ≡ None
  pub task : task (commands.Rewrite path to) files ≡ Ok (tasks.Rewrite (moved (program Source parts)) text to)

module _ (files : List File) (path to text : List ℕ) (read : readable files path ≡ Some text)
    (it : Job) (is : job text ≡ Ok it) (grants : List Grant) (granted : grants_at files it ≡ Ok grants) where
  last_stage : (t : Task) → task (commands.Rewrite path to) files ≡ ok_task t → rewrite_of_ground files text to (ground_of it grants) ≡ ok_task t → Rewrites files path to
  unfolding rewrite_of_ground
  last_stage t whole e =
      let a = bound (each (part_at files) (ground_of it grants).classes) (λ parts. rewrite_of_parts text to parts) t e in
      let b = bound (moved_of_parts a.0) (λ p. ok_task (tasks.Rewrite p text to)) t a.2 in
      let m = is_moved a.0 b.0 b.1 in
      record {
        text = text;
        it = it;
        grants = grants;
        parts = a.0;
        read = read;
        job = is;
        granted = granted;
        classes = a.1;
        links = m.links;
        types = m.types;
        limits = m.limits;
        task = whole ∙ sym b.2 ∙ ap (λ (p : Program). ok_task (tasks.Rewrite p text to)) (sym m.same);
      }

pub ground_is : (g h : JobSetup) → ok_ground g ≡ ok_ground h → g ≡ h
ground_is g h e = cc

text_stage : (files : List File) (path to text : List ℕ) (t : Task) → readable files path ≡ Some text → task (commands.Rewrite path to) files ≡ ok_task t → rewrite_of_text files to text ≡ ok_task t → Rewrites files path to
unfolding rewrite_of_text ground_in
text_stage files path to text t read whole e =
    let a = bound (ground_in files text) (λ g. rewrite_of_ground files text to g) t e in
    let b = bound (job_read (job text)) (λ it. grants_at files it >>= λ grants. ok_ground (ground_of it grants)) a.0 a.1 in
    let c = bound (grants_at files b.0) (λ grants. ok_ground (ground_of b.0 grants)) a.0 b.2 in
    let same : ground_of b.0 c.0 ≡ a.0 = ground_is (ground_of b.0 c.0) a.0 c.2 in
    last_stage files path to text read b.0 (job_is (job text) b.0 b.1) c.0 c.1 t whole
    (ap (rewrite_of_ground files text to) same ∙ a.2)

is_rewriting : (files : List File) (path to : List ℕ) (t : Task) → task (commands.Rewrite path to) files ≡ ok_task t → Rewrites files path to
unfolding task rewrite_at
is_rewriting files path to t whole =
    let a = bound (bytes_at files path) (λ text. rewrite_of_text files to text) t whole in
    text_stage files path to a.0 t (found_is (readable files path) a.0 a.1) whole a.2

-- ---- where it is answered that it was done

ended : (r : Result Task Stopped) → (unless_stopped shown r).status ≡ Some Finished → (t : Task) × (r ≡ ok_task t)
ended (Ok t) e = (t, refl)
ended (Err (Refused refusal)) e = absurd (let x = e in cc)
ended (Err Missing) e = absurd (let x = e in cc)

pub rewrites : (files : List File) (path to : List ℕ) → (answer (commands.Rewrite path to) files).status ≡ Some Finished → Rewrites files path to
unfolding answer
rewrites files path to e = let t = ended (task (commands.Rewrite path to) files) e in is_rewriting files path to t.0 t.1

pub stored_files : (files : List File) (path to : List ℕ) (r : Rewrites files path to)
    → (answer (commands.Rewrite path to) files).files ≡ files_below to r.text (moved (program Source r.parts))
unfolding answer shown
stored_files files path to r = ap (λ (x : Result Task Stopped). (unless_stopped shown x).files) r.task
