-- The files of a job that a seed and a size make, as a shelf holds them.
use Rattle.std.specs.Prelude.{ℕ, List, map}
use Rattle.joutput.specs.jio.ShelfFiles.{File}
use Rattle.jgen.specs.declared.making.MadeFile.{MadeFile}
use Rattle.jgen.specs.GeneratedFiles.{made_job}

-- a made file, as a shelf holds it
abbrev pub as_held : MadeFile → File
as_held file = record { path = file.path; bytes = file.bytes }

-- the made files
unfoldable pub held : ℕ → ℕ → List File
held seed size = map as_held (made_job seed size).files
