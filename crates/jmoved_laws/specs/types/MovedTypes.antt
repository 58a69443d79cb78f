-- What moved programs keep of types.
use Rattle.std.specs.Prelude.{◌≡◌, None}
use Rattle.jresolution.specs.jprogram.ProgramClasses.{Program}
use Rattle.jtyping.specs.jwelltyped.VerifierTests.{WellTyped}
use Rattle.jrewriting.specs.jrewrite.LinkageLaws.{IsLinked}
use Rattle.jrewriting.specs.jrewrite.RewrittenPrograms.{limits, moved}

-- The moved program is well typed, where the program links, is well typed and breaks no limit.
abbrev pub TypesStay : Type 0
TypesStay = (p : Program) → IsLinked p → WellTyped p → limits p ≡ None → WellTyped (moved p)
