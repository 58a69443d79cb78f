-- What is read of the files that are held: the job, its policy and its class files, each judged before the next is read.
use Rattle.std.specs.Prelude.{ℕ, ◌-◌, List, [], length, Option, Some, None, Result, Ok, Err}
use Rattle.std.specs.Result.{result_map_both}
use Rattle.jground.specs.jbase.MemoryFailures.{◌>>=◌}
use Rattle.joutput.specs.jio.ShelfFiles.{File}
use Rattle.jground.specs.declared.jformat.error.At.{At}
use Rattle.jground.specs.declared.jformat.error.Fault.{Fault}
use Rattle.jclass.specs.declared.class.ClassParts.{ClassParts}
use Rattle.jclass.specs.declared.fault.ClassFault.{ClassFault}
use Rattle.jclass.specs.Class.{class_file}
use Rattle.jpolicy.specs.declared.fault.PolicyFault.{PolicyFault}
use Rattle.jpolicy.specs.declared.grant.Grant.{Grant}
use Rattle.jpolicy.specs.Policies.{policy}
use Rattle.jjob.specs.declared.job.Job.{Job}
use Rattle.jjob.specs.Jobs.{job}
use Rattle.jresolution.specs.declared.jprogram.part.CodePart.{CodePart}
use Rattle.jshow.specs.declared.refusal.Refusal.TheVariants.{BadJob, BadPolicy, BadClass}
use Rattle.jtasks.specs.declared.jstages.job_setup.ClassPath.{ClassPath}
use Rattle.jtasks.specs.declared.jstages.job_setup.JobSetup.{JobSetup}
use Rattle.jtasks.specs.jstages.JobPlans.{ground_of}
use Rattle.jtasks.specs.jstages.Stages.{Stopped, Refused, bytes_at}

-- ---- the job and its policy

-- the job that is read, or its refusal at the first bad line
abbrev pub job_read : Result Job ℕ → Result Job Stopped
job_read r = result_map_both (λ it. it) (λ line. Refused (BadJob line)) r

-- the grants that are read, or their refusal at the first fault
abbrev pub grants_read : Result (List Grant) (At PolicyFault) → Result (List Grant) Stopped
grants_read r = result_map_both (λ grants. grants) (λ fault. Refused (BadPolicy fault.at fault.kind)) r

-- the byte at which the grants that are read have their first fault
abbrev pub place_of_fault : Result (List Grant) (At PolicyFault) → Option ℕ
place_of_fault = elim [ Ok grants ↦ None | Err fault ↦ Some fault.at ]

-- the grants of a job's policy, expanded by the job's properties; a job without a policy has none
abbrev pub grants_of : List File → List (List ℕ × List ℕ) → Option (List ℕ) → Result (List Grant) Stopped
grants_of files props = elim [ None ↦ Ok [] | Some path ↦ bytes_at files path >>= λ bytes. grants_read (policy props bytes) ]

unfoldable pub grants_at : List File → Job → Result (List Grant) Stopped
grants_at files it = grants_of files it.props it.policy

-- what the job of a text and its policy say
unfoldable pub ground_in : List File → List ℕ → Result JobSetup Stopped
ground_in files text = job_read (job text) >>= λ it. grants_at files it >>= λ grants. Ok (ground_of it grants)

-- what the job at a path and its policy say
unfoldable pub ground_at : List File → List ℕ → Result JobSetup Stopped
ground_at files path = bytes_at files path >>= λ text. ground_in files text

-- ---- class files

-- the class file that is read, or its refusal at the first fault
abbrev pub class_read : List ℕ → List ℕ → Result ClassParts (Fault ClassFault) → Result ClassParts Stopped
class_read path bytes r = result_map_both (λ class. class) (λ fault. Refused (BadClass path (length bytes - fault.left) fault.kind)) r

-- the class file at a path
unfoldable pub class_at : List File → List ℕ → Result ClassParts Stopped
class_at files path = bytes_at files path >>= λ bytes. class_read path bytes (class_file.read bytes)

-- the class file at a path, with the number of its code source
unfoldable pub part_at : List File → ClassPath → Result CodePart Stopped
part_at files one = class_at files one.path >>= λ class. Ok (record { domain = one.domain; class = class })
