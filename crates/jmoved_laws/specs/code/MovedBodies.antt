-- What the code of methods becomes in the moved program.
use Rattle.std.specs.Prelude.{◌≡◌, Some, None}
use Rattle.jclass.specs.declared.class.CodeBody.{CodeBody}
use Rattle.jresolution.specs.declared.jprogram.member.MethodId.{MethodId}
use Rattle.jresolution.specs.jprogram.ProgramClasses.{Program}
use Rattle.jresolution.specs.juses.IndexedInstructions.{code_at}
use Rattle.jtyping.specs.jwelltyped.VerifierTests.{WellTyped}
use Rattle.jrewriting.specs.jrewrite.LinkageLaws.{IsLinked}
use Rattle.jrewriting.specs.jrewrite.RewrittenPrograms.{limits, moved}
use Rattle.jsimulation_laws.specs.relation.ProgramRelation.{MovedCode}

-- Each method's code is moved: what is fetched of it and where it handles what is thrown is what moving says by what instructions mean.
abbrev pub CodesMove : Type 0
CodesMove = (p : Program) → IsLinked p → WellTyped p → limits p ≡ None → (m : MethodId) (body : CodeBody) → code_at p m ≡ Some body
    → MovedCode p (moved p) m body
