-- What moved programs keep of the fourth phase of linking, what code names, and so of linking.
use Rattle.std.specs.Prelude.{◌≡◌, None}
use Rattle.jlinking.specs.jlink.LinkedPrograms.{Links}
use Rattle.jresolution.specs.jprogram.ProgramClasses.{Program}
use Rattle.jlinking.specs.jreferring.CodeChecks.{code_fault}
use Rattle.jtyping.specs.jwelltyped.VerifierTests.{WellTyped}
use Rattle.jrewriting.specs.jrewrite.LinkageLaws.{IsLinked}
use Rattle.jrewriting.specs.jrewrite.RewrittenPrograms.{limits, moved}

-- The code of each moved method names what it may name, where the program links, is well typed and breaks no limit.
abbrev pub CodeStays : Type 0
CodeStays = (p : Program) → IsLinked p → WellTyped p → limits p ≡ None → code_fault (moved p) ≡ None

-- So the moved program links.
abbrev pub LinksStay : Type 0
LinksStay = (p : Program) → IsLinked p → WellTyped p → limits p ≡ None → Links (moved p)
