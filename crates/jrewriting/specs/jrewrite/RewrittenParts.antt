-- What the parts of a moved program are.
use Rattle.std.specs.Prelude.{◌≡◌, ℕ, Some, None, IsTrue, slice_get}
use Rattle.jclass.specs.Class.{class_file}
use Rattle.jresolution.specs.declared.jprogram.part.CodePart.{CodePart}
use Rattle.jresolution.specs.jprogram.ProgramClasses.{Program}
use Rattle.jtyping.specs.jwelltyped.VerifierTests.{WellTyped}
use Rattle.jrewriting.specs.jrewrite.LinkageLaws.{IsLinked}
use Rattle.jrewriting.specs.jrewrite.RewrittenPrograms.{limits, moved}

-- Where a program that links and is well typed breaks no limit, each part of the moved program is a class file.
abbrev pub PartsAreFiles : Type 0
PartsAreFiles = (p : Program) → IsLinked p → WellTyped p → limits p ≡ None
    → (i : ℕ) (part : CodePart) → slice_get (moved p).parts i ≡ Some part → IsTrue (class_file.fits part.class)
