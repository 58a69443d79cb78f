-- The files that a moved program is stored as, below a folder.
use Rattle.std.specs.Prelude.{ℕ, List, [], ◌∷◌, ◌++◌, map, codes, decimal}
use Rattle.joutput.specs.jio.ShelfFiles.{File}
use Rattle.joutput.specs.jio.TextOutput.{written}
use Rattle.jjob.specs.StoredJobText.{stored_job}
use Rattle.jresolution.specs.jprogram.ProgramClasses.{Program}
use Rattle.jrewriting.specs.declared.jrewrite.rewritten.OutFile.{OutFile}
use Rattle.jrewriting.specs.jrewrite.RewrittenFiles.{files_of}
use Rattle.jtasks.specs.jstages.LinkStage.{units_in}

-- where a class is stored in a folder: in that of its domain, by its name, which is written as texts are
abbrev pub place_of : ℕ → List ℕ → List ℕ
place_of domain units = codes "/d" ++ (decimal domain ++ (codes "/" ++ (written units ++ codes ".class")))

-- the path of a class below a folder
abbrev pub class_path : List ℕ → ℕ → List ℕ → List ℕ
class_path to domain name = to ++ place_of domain (units_in name)

abbrev pub path_of : List ℕ → OutFile → List ℕ
path_of to file = class_path to file.domain file.name

-- a class file, stored below a folder
abbrev pub class_below : List ℕ → OutFile → File
class_below to file = record { path = path_of to file; bytes = file.bytes }

-- the job, stored in a folder beside these class files
abbrev pub job_below : List ℕ → List ℕ → List OutFile → File
job_below to text files = record { path = to ++ codes "/job"; bytes = stored_job text (map (path_of to) files) }

-- these class files in their order, and then the job
abbrev pub all_below : List ℕ → List ℕ → List OutFile → List File
all_below to text files = map (class_below to) files ++ job_below to text files ∷ []

-- the files of a program below a folder, with the job of this text
unfoldable pub files_below : List ℕ → List ℕ → Program → List File
files_below to text p = all_below to text (files_of p)
