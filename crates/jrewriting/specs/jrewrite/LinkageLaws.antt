-- What moved programs keep of linking.
use Rattle.std.specs.Prelude.{◌≡◌, ℕ, Some, None, IsTrue, slice_get}
use Rattle.jclass.specs.Class.{class_file}
use Rattle.jlib.specs.declared.side.Side.TheVariants.{Source}
use Rattle.jresolution.specs.declared.jprogram.part.CodePart.{CodePart}
use Rattle.jresolution.specs.jprogram.ProgramClasses.{Program}
use Rattle.jresolution.specs.jprogram.NameChecks.{naming_fault}
use Rattle.jresolution.specs.jprogram.SuperChecks.{supers_fault}
use Rattle.jlinking.specs.jlink.LinkedPrograms.{Links}
use Rattle.jrewriting.specs.jrewrite.RewrittenPrograms.{moved}

-- a program of the source side that links, whose parts are class files
pub record IsLinked (p : Program) : Type 0 where
  pub source : p.side ≡ Source
  pub links : Links p
  pub files : (i : ℕ) (part : CodePart) → slice_get p.parts i ≡ Some part → IsTrue (class_file.fits part.class)

-- In the moved program no name is the library's or stands twice,
abbrev pub NamesStay : Type 0
NamesStay = (p : Program) → IsLinked p → naming_fault (moved p) ≡ None

-- and what classes extend and list is there, may stand there, and makes no circle.
abbrev pub SupersStay : Type 0
SupersStay = (p : Program) → IsLinked p → supers_fault (moved p) ≡ None
