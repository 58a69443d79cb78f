-- What a machine asks of the classes and fields of a program, of the moved program too.
use Rattle.std.specs.Prelude.{◌≡◌, None}
use Rattle.jresolution.specs.jprogram.ProgramClasses.{Program}
use Rattle.jsemantics.specs.jmachine.World.{world}
use Rattle.jtyping.specs.jwelltyped.VerifierTests.{WellTyped}
use Rattle.jrewriting.specs.jrewrite.LinkageLaws.{IsLinked}
use Rattle.jrewriting.specs.jrewrite.RewrittenPrograms.{limits, moved}
use Rattle.jsimulation_laws.specs.relation.ProgramRelation.{SameClasses}

-- Classes and fields are the same, where the program links, is well typed and breaks no limit.
abbrev pub ClassesStay : Type 0
ClassesStay = (p : Program) → IsLinked p → WellTyped p → limits p ≡ None → SameClasses (world p) (world (moved p))
