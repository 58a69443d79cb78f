-- A job that is stored with other class files, read again.
use Rattle.std.specs.Prelude.{◌≡◌, ◌==◌, ◌<◌, ℕ, false, All, List, [], ◌∷◌, length, drop, Ok, IsUtf8}
use Rattle.std.specs.List.{AllByRecursion}
use Rattle.jjob.specs.declared.job.Job.{Job}
use Rattle.jjob.specs.declared.job.JobSource.{JobSource}
use Rattle.jjob.specs.Jobs.{job}
use Rattle.jjob.specs.JobLimits.{IsWithin}
use Rattle.jjob.specs.StoredJobText.{stored_job}

-- Bytes that a job may name a file by: a text that isn't empty and has no line feed.
pub record IsName (path : List ℕ) : Type 0 where
  pub text : IsUtf8 path
  pub some : 0 < length path
  pub line : All (λ b. (b == 10) ≡ false) path

-- paths in the place of others, one by one; where there are too few, the others stay
abbrev pub in_place : List (List ℕ) → List (List ℕ) → List (List ℕ)
in_place [] old = old
in_place (path ∷ paths) [] = []
in_place (path ∷ paths) (one ∷ old) = path ∷ in_place paths old

-- code sources with these paths in the place of those of their class files, in their order
unfoldable pub with_classes : List (List ℕ) → List JobSource → List JobSource
with_classes paths [] = []
with_classes paths (one ∷ more) = record { source = one.source; classes = in_place paths one.classes }
    ∷ with_classes (drop (length one.classes) paths) more

-- A job that is stored with other paths is read as it was, with these in the place of those of its class files.
abbrev pub JobAgain : Type 0
JobAgain = (text : List ℕ) (paths : List (List ℕ)) (it : Job) → job text ≡ Ok it → AllByRecursion IsName paths
    → job (stored_job text paths) ≡ Ok (record it { sources = with_classes paths it.sources })

-- A job that is read has no more code sources and class files than a job may have.
abbrev pub JobIsSmall : Type 0
JobIsSmall = (text : List ℕ) (it : Job) → job text ≡ Ok it → IsWithin it
