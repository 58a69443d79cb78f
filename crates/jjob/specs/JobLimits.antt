-- How much words and a job may say, and what counts where a job doesn't say.
use Rattle.std.specs.Prelude.{◌≤◌, ℕ, List, length}
use Rattle.std.specs.List.{sum_by}
use Rattle.jjob.specs.declared.job.Job.{Job}
use Rattle.jjob.specs.declared.job.JobSource.{JobSource}

-- the cells of the heap: where a job doesn't say, and the most
abbrev pub default_heap : ℕ
default_heap = 1048576

abbrev pub most_heap : ℕ
most_heap = 16777216

-- the frames of a thread
abbrev pub default_depth : ℕ
default_depth = 1000

abbrev pub most_depth : ℕ
most_depth = 10000

-- the steps of a run
abbrev pub default_steps : ℕ
default_steps = 10000000

abbrev pub most_steps : ℕ
most_steps = 1000000000000

-- the most code sources, and the most class files of all of them
abbrev pub most_codes : ℕ
most_codes = 4096

abbrev pub most_classes : ℕ
most_classes = 65535

-- how many class files code sources have
abbrev pub classes_in : List JobSource → ℕ
classes_in sources = sum_by (λ s. length s.classes) sources

-- a job has no more code sources than it may have, and no more class files in all
pub record IsWithin (job : Job) : Type 0 where
  pub codes : length job.sources ≤ most_codes
  pub classes : classes_in job.sources ≤ most_classes

-- the most numbers of a schedule, and the greatest of them
abbrev pub most_picks : ℕ
most_picks = 1000000

abbrev pub greatest_pick : ℕ
greatest_pick = 4294967295

-- the greatest seed, and the greatest size
abbrev pub most_seed : ℕ
most_seed = 18446744073709551615

abbrev pub most_size : ℕ
most_size = 1000
