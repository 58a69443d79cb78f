-- What a moved program finds by a moved descriptor.
use Rattle.std.specs.Prelude.{◌≡◌, ℕ, List, option_and_then, slice_get, Bool, true, false, Option, Some, None, if◌then◌else◌}
use Rattle.jclass.specs.declared.class.MemberInfo.{MemberInfo}
use Rattle.jlib.specs.declared.calls.LibCall.{LibCall}
use Rattle.jresolution.specs.declared.jprogram.member.Member.{Member}
use Rattle.jresolution.specs.declared.jprogram.member.Member.TheVariants.{Method, LibMethod}
use Rattle.jresolution.specs.declared.jprogram.part.CodePart.{CodePart}
use Rattle.jresolution.specs.jprogram.ProgramClasses.{Program}
use Rattle.jresolution.specs.jprogram.MemberResolution.{method_at}
use Rattle.jresolution.specs.jprogram.NameChecks.{is_reserved}
use Rattle.jresolution.specs.jprogram.ClassFileParts.{member_desc}
use Rattle.jtyping.specs.jwelltyped.VerifierTests.{WellTyped}
use Rattle.jmoveclass.specs.MovedMembers.{new_desc}
use Rattle.jrewriting.specs.jrewrite.LinkageLaws.{IsLinked}
use Rattle.jrewriting.specs.jrewrite.RewrittenPrograms.{limits, moved}
use Rattle.jsimulation_laws.specs.relation.InstructionExpansion.{Way, Handed, library_way, passing}

abbrev pub is_handed : Way → Bool
is_handed Handed = true
is_handed way = false

-- a member of the library is handed a context where it is called
abbrev pub library_handed : LibCall → Bool
library_handed call = is_handed (library_way call)

-- A user's method is found as itself, and one of the library that is handed a context in its passing form; of others nothing is found.
abbrev pub kept : Member → Option Member
kept (Method m) = Some (Method m)
kept (LibMethod call) = if library_handed call then Some (LibMethod (passing call)) else None
kept m = None

-- By a moved descriptor a class of the moved program declares what its class declared by the old one, and nothing else.
abbrev pub FoundAsItself : Type 0
FoundAsItself = (p : Program) → IsLinked p → WellTyped p → limits p ≡ None → (i j : ℕ) (part : CodePart) (m : MemberInfo) (name class : List ℕ)
    → slice_get p.parts i ≡ Some part → slice_get part.class.methods j ≡ Some m → is_reserved class ≡ false
    → method_at (moved p) name (new_desc part.class m) class ≡ option_and_then kept (method_at p name (member_desc part.class m) class)
