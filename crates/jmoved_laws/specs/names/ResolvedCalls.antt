-- What linking and typing say of a call that an instruction of a class names (JVMS 5.4.3.3, 6.5).
use Rattle.std.specs.Prelude.{◌≡◌, List, ℕ, Bool, true, false, Some, None, slice_get}
use Rattle.std.specs.Str.{bytes_eq}
use Rattle.jresolution.specs.jprogram.ProgramClasses.{Program, extends, find, holds, is_interface}
use Rattle.jresolution.specs.jprogram.MemberResolution.{desc_of, init, is_static, name_of, resolve_method}
use Rattle.jresolution.specs.jprogram.NameChecks.{is_reserved}
use Rattle.jlinking.specs.jlink.NamedCalls.{begins}
use Rattle.jresolution.specs.declared.juses.meaning.InvokeKind.{InvokeKind}
use Rattle.jresolution.specs.declared.juses.meaning.InvokeKind.TheVariants as how
use Rattle.jresolution.specs.juses.IndexedInstructions.{Used, instruction_at}
use Rattle.jresolution.specs.juses.DescriptorTypes.{Called, typed}
use Rattle.jresolution.specs.juses.InstructionMeanings.{Call, CallMeaning}
use Rattle.jresolution.specs.declared.jprogram.member.MethodId.{MethodId}
use Rattle.jresolution.specs.declared.jprogram.part.CodePart.{CodePart}
use Rattle.jresolution.specs.jprogram.ClassFileParts.{this_name}
use Rattle.jtyping.specs.jwelltyped.VerifierTests.{WellTyped}
use Rattle.jrewriting.specs.jrewrite.LinkageLaws.{IsLinked}
use Rattle.jrewriting.specs.jrewrite.RewrittenPrograms.{limits, moved}
use Rattle.jsimulation_laws.specs.relation.ProgramRelation.{SameCalls}

abbrev pub calls_static : InvokeKind → Bool
calls_static how.Static = true
calls_static by = false

abbrev pub by_interface : InvokeKind → Bool
by_interface how.Interface = true
by_interface by = false

-- it is resolved from the class by which it is named, which is no interface but where an interface's method is called; and a special call
-- names the class itself or one above it
pub record IsResolvedCall (p : Program) (this : List ℕ) (by : InvokeKind) (c : CallMeaning) : Type 0 where
  pub resolved : resolve_method p c.owner.0 (name_of p c.member) (desc_of p c.member) ≡ Some c.member
  pub plain : is_reserved c.owner.0 ≡ false
  pub begins : bytes_eq (name_of p c.member) init ≡ begins by
  pub static : is_static p c.member ≡ calls_static by
  pub crossed : holds is_interface (find p c.owner.0) ≡ by_interface by
  pub upward : by ≡ how.Special → extends p this c.owner.0 ≡ true
  pub types : typed p (desc_of p c.member) ≡ Called c.params c.ret

-- An instruction that calls in a program that links is resolved so.
abbrev pub CallsAreResolved : Type 0
CallsAreResolved = (p : Program) (m : MethodId) (part : CodePart) (n : ℕ) (by : InvokeKind) (c : CallMeaning) → IsLinked p
    → slice_get p.parts m.class ≡ Some part → instruction_at p m n ≡ Some (Used (Call by c)) → IsResolvedCall p (this_name part.class) by c

-- Where a call's operands were taken it comes to the same in the moved program, with a context or without one.
abbrev pub CallsStay : Type 0
CallsStay = (p : Program) → IsLinked p → WellTyped p → limits p ≡ None → SameCalls p (moved p)
