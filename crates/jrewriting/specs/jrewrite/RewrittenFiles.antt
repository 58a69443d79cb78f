-- What a moved program is, and the class files that it is stored as.
use Rattle.std.specs.Prelude.{◌≡◌, ℕ, List, map, Some, IsTrue, slice_get}
use Rattle.jclass.specs.Class.{class_file}
use Rattle.jlib.specs.declared.side.Side.TheVariants.{Passing}
use Rattle.jlinking.specs.jlink.LinkedPrograms.{Links}
use Rattle.jresolution.specs.declared.jprogram.part.CodePart.{CodePart}
use Rattle.jresolution.specs.jprogram.ProgramClasses.{Program}
use Rattle.jresolution.specs.jprogram.ClassFileParts.{this_name}
use Rattle.jrewriting.specs.declared.jrewrite.rewritten.OutFile.{OutFile}

-- a program that links on the passing side, and whose parts are class files
pub record IsRewritten (p : Program) : Type 0 where
  pub passing : p.side ≡ Passing
  pub links : Links p
  pub files : (i : ℕ) (part : CodePart) → slice_get p.parts i ≡ Some part → IsTrue (class_file.fits part.class)

-- a class with the number of its domain, as its name and the bytes that spell it
abbrev pub out_file : CodePart → OutFile
out_file part = record { domain = part.domain; name = this_name part.class; bytes = class_file.spell part.class }

-- the class files of a program, in its order
unfoldable pub files_of : Program → List OutFile
files_of p = map out_file p.parts
