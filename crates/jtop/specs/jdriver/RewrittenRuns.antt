-- What a rewriting stores, run as the job runs that was rewritten.
use Rattle.std.specs.Prelude.{◌≡◌, ◌==◌, ℕ, false, All, List, ◌++◌, Some, Ok, IsUtf8, codes}
use Rattle.std.specs.List.{AllByRecursion}
use Rattle.jground.specs.jformat.Format.{IsBytes}
use Rattle.joutput.specs.jio.ShelfFiles.{File, readable}
use Rattle.jjob.specs.declared.command.Command.TheVariants.{Rewrite, Run}
use Rattle.jjob.specs.declared.command.Form.TheVariants.{Pass, Plain}
use Rattle.jjob.specs.declared.job.Job.{Job}
use Rattle.jjob.specs.Jobs.{job}
use Rattle.jshow.specs.declared.status.Status.TheVariants.{Finished}
use Rattle.jtop.specs.jdriver.Answers.{answer}

-- The shelf gives each of these files where it is read: it is there, and has at most 67,108,864 bytes.
abbrev pub AreRead : List File → List File → Type 0
AreRead shelf stored = AllByRecursion (λ file. readable shelf file.path ≡ Some file.bytes) stored

-- The policy that the job at a path names is read from the shelf as from the files.
abbrev pub SamePolicy : List File → List File → List ℕ → Type 0
SamePolicy files shelf path = (text policy : List ℕ) (it : Job) → readable files path ≡ Some text → job text ≡ Ok it → it.policy ≡ Some policy
    → readable shelf policy ≡ readable files policy

-- The job at a path was rewritten over these files, which hold bytes; what was stored stands on a shelf below a folder whose path has no line feed;
-- and the policy is as it was.
pub record IsStored (files shelf : List File) (path to : List ℕ) : Type 0 where
  pub bytes : AllByRecursion (λ file. IsBytes file.bytes) files
  pub text : IsUtf8 to
  pub line : All (λ b. (b == 10) ≡ false) to
  pub done : (answer (Rewrite path to) files).status ≡ Some Finished
  pub held : AreRead shelf (answer (Rewrite path to) files).files
  pub policy : SamePolicy files shelf path

-- What is stored, run in the form plain, answers what the first job answers in the form pass.
abbrev pub RunsAlike : Type 0
RunsAlike = (files shelf : List File) (path to : List ℕ) → IsStored files shelf path to
    → answer (Run Plain (to ++ codes "/job")) shelf ≡ answer (Run Pass path) files
