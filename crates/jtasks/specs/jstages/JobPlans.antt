-- What a job and its policy say, for each verb that reads a job.
use Rattle.std.specs.Prelude.{◌<◌, ◌≤◌, ℕ, ◌+◌, List, [], ◌∷◌, ◌++◌, length, map}
use Rattle.url.specs.Parts.{Parts}
use Rattle.jdomain.specs.Domains.{granted}
use Rattle.jpolicy.specs.declared.grant.Grant.{Grant}
use Rattle.jjob.specs.declared.job.Job.{Job}
use Rattle.jjob.specs.declared.job.JobSource.{JobSource}
use Rattle.jsemantics.specs.declared.jmachine.plan.Plan.{Plan}
use Rattle.jresolution.specs.declared.jprogram.member.MethodId.{MethodId}
use Rattle.jtasks.specs.declared.jstages.job_setup.ClassPath.{ClassPath}
use Rattle.jtasks.specs.declared.jstages.job_setup.JobSetup.{JobSetup}
use Rattle.jtasks.specs.declared.jstages.job_setup.Setting.{Setting}

-- the URLs of a job's code sources
abbrev pub urls_of : List JobSource → List Parts
urls_of sources = map (λ s. s.source) sources

-- paths of class files, each with the number of the code source that they are of
abbrev pub paths_with : ℕ → List (List ℕ) → List ClassPath
paths_with domain paths = map (λ path. record { domain = domain; path = path }) paths

-- the paths of all class files, in the job's order, each with the number of its code source; the first of these code sources has the number `domain`
unfoldable pub paths_from : ℕ → List JobSource → List ClassPath
paths_from domain [] = []
paths_from domain (source ∷ sources) = paths_with domain source.classes ++ paths_from (domain + 1) sources

-- numbers that don't fall, all below 4,096
abbrev pub Rise : ℕ → List ℕ → Type 0
Rise least [] = Unit {0}
Rise least (n ∷ more) = (least ≤ n) × ((n < 4096) × Rise n more)

-- the numbers of the code sources that class files are of
abbrev pub domains_of : List ClassPath → List ℕ
domains_of classes = map (λ c. c.domain) classes

-- the class files at these paths are parts that may be linked: they are few, and come in the order of their code sources
pub record ArePaths (classes : List ClassPath) : Type 0 where
  pub few : length classes ≤ 0xffff
  pub rise : Rise 0 (domains_of classes)

-- what a job says, and what a policy grants to its code
unfoldable pub ground_of : Job → List Grant → JobSetup
ground_of job grants = record {
  sources = urls_of job.sources;
  domains = map (granted job.cwd grants) (urls_of job.sources);
  classes = paths_from 0 job.sources;
  main = job.main;
  setting = record { schedule = job.schedule; cwd = job.cwd; heap = job.heap; depth = job.depth; steps = job.steps };
}

-- the plan of a run that begins with a method
abbrev pub plan_of : Setting → MethodId → Plan
plan_of it main = record { main = main; schedule = it.schedule; cwd = it.cwd; heap = it.heap; depth = it.depth; steps = it.steps }
