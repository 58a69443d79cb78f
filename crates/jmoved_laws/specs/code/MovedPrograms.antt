-- A program and its moved program.
use Rattle.std.specs.Prelude.{◌≡◌, None}
use Rattle.jresolution.specs.jprogram.ProgramClasses.{Program}
use Rattle.jtyping.specs.jwelltyped.VerifierTests.{WellTyped}
use Rattle.jrewriting.specs.jrewrite.LinkageLaws.{IsLinked}
use Rattle.jrewriting.specs.jrewrite.RewrittenPrograms.{limits, moved}
use Rattle.jsimulation_laws.specs.relation.ProgramRelation.{Moves}

-- Where a program links, is well typed and breaks no limit, it and its moved program are a pair of which the simulation holds.
abbrev pub ProgramsMove : Type 0
ProgramsMove = (p : Program) → IsLinked p → WellTyped p → limits p ≡ None → Moves p (moved p)
