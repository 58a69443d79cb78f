-- The files of a made job: the job, its policy, and its classes.
use Rattle.std.specs.Prelude.{ℕ, zero, suc, ◌+◌, List, [], ◌∷◌, ◌++◌, codes, decimal, if◌then◌else◌}
use Rattle.jgen.specs.declared.draws.Kind.{Kind}
use Rattle.jgen.specs.declared.making.MadeFile.{MadeFile}
use Rattle.jgen.specs.declared.making.MadeJob.{MadeJob}
use Rattle.jgen.specs.GeneratedClasses.{class_bytes, name}
use Rattle.jgen.specs.Draws.{kinds}

-- where the classes of a code source lie
abbrev pub base : ℕ → List ℕ
base i = codes "file:/g" ++ decimal i ++ codes "/"

-- where a class file is
abbrev pub path : ℕ → List ℕ
path i = name i ++ codes ".class"

-- ---- the job

abbrev pub source : ℕ → List ℕ
source i = codes "code " ++ base i ++ codes "\nclass " ++ path i ++ codes "\n"

-- so many code sources from one on, each with its class
unfoldable pub sources : ℕ → ℕ → List ℕ
sources i zero = []
sources i (suc n) = source i ++ sources (i + 1) n

abbrev pub job_text : ℕ → List ℕ
job_text size = codes "policy gen.policy\n" ++ sources 0 size ++ codes "main G0\n"

-- ---- the policy

abbrev pub grant : ℕ → List ℕ
grant i = codes "grant codeBase \"" ++ base i ++ codes "\" { permission java.util.PropertyPermission \"p\", \"read\"; };\n"

-- those of classes of these kinds, from one on
unfoldable pub grants : ℕ → List Kind → List ℕ
grants i [] = []
grants i (kind ∷ kinds) = (if kind.granted then grant i else []) ++ grants (i + 1) kinds

-- ---- all

abbrev pub class_file : ℕ → ℕ → Kind → MadeFile
class_file size i kind = record { path = path i; bytes = class_bytes size i kind }

-- the files of classes of these kinds, from one on
unfoldable pub class_files : ℕ → ℕ → List Kind → List MadeFile
class_files size i [] = []
class_files size i (kind ∷ kinds) = class_file size i kind ∷ class_files size (i + 1) kinds

abbrev pub text_file : List ℕ → List ℕ → List MadeFile
text_file path text = record { path = path; bytes = text } ∷ []

abbrev pub files_of : ℕ → List Kind → List MadeFile
files_of size kinds = text_file (codes "gen.job") (job_text size) ++ text_file (codes "gen.policy") (grants 0 kinds) ++ class_files size 0 kinds

-- the job that a seed and a size make
unfoldable pub made_job : ℕ → ℕ → MadeJob
made_job seed size = record { files = files_of size (kinds seed size) }
