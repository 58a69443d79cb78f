-- The references that the code of a class names, by the place among a method's instructions.
use Rattle.std.proofs.Common.{◌≡◌, ℕ, Option, Some, None, refl, sym}
use Rattle.std.specs.Prelude.{option_and_then, option_map, slice_get}
use Rattle.jparts.specs.declared.jcode.op.Placed.{Placed}
use Rattle.jparts.specs.jcode.InstructionForms.{form}
use Rattle.jclass.specs.declared.class.CodeBody.{CodeBody}
use Rattle.jclass.specs.declared.class.MemberInfo.{MemberInfo}
use Rattle.jresolution.specs.declared.jprogram.member.MethodId.{MethodId}
use Rattle.jresolution.specs.declared.jprogram.part.CodePart.{CodePart}
use Rattle.jresolution.specs.jprogram.ClassFileParts.{code_of}
use Rattle.jresolution.specs.jprogram.ProgramClasses.{Program}
use Rattle.jresolution.specs.declared.juses.code.CodeRef.{CodeRef}
use Rattle.jresolution.specs.juses.IndexedInstructions.{code_at}
use Rattle.jresolution.specs.juses.InternedInstructions.{seen_code}
use Rattle.jlinking.specs.jlink.CodeReferences.{IsReferred, reference_of}

-- the method and its class, where there is code
record Found (p : Program) (m : MethodId) (body : CodeBody) : Type 0 where
  part : CodePart
  stands : slice_get p.parts m.class ≡ Some part
  method : MemberInfo
  declared : slice_get part.class.methods m.method ≡ Some method
  coded : code_of method ≡ Some body

in_method : (p : Program) (m : MethodId) (body : CodeBody) (part : CodePart) → slice_get p.parts m.class ≡ Some part
    → (o : Option MemberInfo) → slice_get part.class.methods m.method ≡ o → option_and_then code_of o ≡ Some body → Found p m body
in_method p m body part stands None at coded = absurd cc
in_method p m body part stands (Some method) at coded = record { part = part; stands = stands; method = method; declared = at; coded = coded }

in_class : (p : Program) (m : MethodId) (body : CodeBody) (o : Option CodePart) → slice_get p.parts m.class ≡ o
    → option_and_then (λ c. option_and_then code_of (slice_get c.methods m.method)) (option_map (λ part. part.class) o) ≡ Some body → Found p m body
in_class p m body None at coded = absurd cc
in_class p m body (Some part) at coded = in_method p m body part at (slice_get part.class.methods m.method) refl coded

found : (p : Program) (m : MethodId) (body : CodeBody) → code_at p m ≡ Some body → Found p m body
found p m body coded = in_class p m body (slice_get p.parts m.class) refl coded

-- what an instruction of a method names is a reference of its class
pub is_referred : (p : Program) (m : MethodId) (code : CodeRef) (place : ℕ) (one : Placed) (i : ℕ)
    → option_map seen_code (Some code) ≡ code_at p m → slice_get code.ops.now place ≡ Some one → reference_of (form one.op) ≡ Some i
    → IsReferred p m.class i
is_referred p m code place one i same at named =
    let f = found p m (seen_code code) (sym same) in
    record {
      part = f.part;
      stands = f.stands;
      number = m.method;
      method = f.method;
      declared = f.declared;
      body = seen_code code;
      coded = f.coded;
      place = place;
      op = one;
      placed = at;
      named = named;
    }
