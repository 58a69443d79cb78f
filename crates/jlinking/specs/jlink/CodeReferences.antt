-- The references that a class's code names: by them the machine and the rewriter ask for members.
use Rattle.std.specs.Prelude.{◌≡◌, ℕ, Option, Some, None, slice_get}
use Rattle.jparts.specs.declared.jcode.op_form.OpForm.{OpForm}
use Rattle.jparts.specs.declared.jcode.op_form.OpForm.TheVariants as forms
use Rattle.jparts.specs.declared.jcode.op_form.PoolForm.TheVariants as pool
use Rattle.jparts.specs.declared.jcode.op.Placed.{Placed}
use Rattle.jparts.specs.jcode.InstructionForms.{form}
use Rattle.jclass.specs.declared.class.CodeBody.{CodeBody}
use Rattle.jclass.specs.declared.class.MemberInfo.{MemberInfo}
use Rattle.jresolution.specs.declared.jprogram.part.CodePart.{CodePart}
use Rattle.jresolution.specs.jprogram.ClassFileParts.{code_of}
use Rattle.jresolution.specs.jprogram.ProgramClasses.{Program}

-- the index of the field or the method that a form names
abbrev pub reference_of : {S : Type 0} → OpForm S → Option ℕ
reference_of (forms.Pool (pool.Field op i)) = Some i
reference_of (forms.Pool (pool.Call op i)) = Some i
reference_of (forms.Pool (pool.CallInterface i slots)) = Some i
reference_of _ = None

-- an instruction of the class at a place names the field or the method at an index of its pool
pub record IsReferred (p : Program) (class i : ℕ) : Type 0 where
  pub part : CodePart
  pub stands : slice_get p.parts class ≡ Some part
  pub number : ℕ
  pub method : MemberInfo
  pub declared : slice_get part.class.methods number ≡ Some method
  pub body : CodeBody
  pub coded : code_of method ≡ Some body
  pub place : ℕ
  pub op : Placed
  pub placed : slice_get body.ops place ≡ Some op
  pub named : reference_of (form op.op) ≡ Some i
