-- What moved programs keep of the third phase of linking.
use Rattle.std.specs.Prelude.{◌≡◌, None}
use Rattle.jlinking.specs.jmembers.MemberDeclarations.{members_fault}
use Rattle.jresolution.specs.jprogram.ProgramClasses.{Program}
use Rattle.jtyping.specs.jwelltyped.VerifierTests.{WellTyped}
use Rattle.jrewriting.specs.jrewrite.LinkageLaws.{IsLinked}
use Rattle.jrewriting.specs.jrewrite.RewrittenPrograms.{limits, moved}

-- Each class of the moved program declares what it may, where the program links, is well typed and breaks no limit.
abbrev pub MembersStay : Type 0
MembersStay = (p : Program) → IsLinked p → WellTyped p → limits p ≡ None → members_fault (moved p) ≡ None
