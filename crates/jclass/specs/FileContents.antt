-- What a class file holds: the codes of its methods, and the frames of a code.
use Rattle.std.specs.Prelude.{◌≡◌, ℕ, ◌<◌, List, Some, IsTrue, slice_get}
use Rattle.jparts.specs.declared.jcode.op.Handler.{Handler}
use Rattle.jparts.specs.declared.jcode.op.Placed.{Placed}
use Rattle.jclass.specs.declared.class.Attribute.{Attribute}
use Rattle.jclass.specs.declared.class.ClassParts.{ClassParts}
use Rattle.jclass.specs.declared.class.CodeBody.{CodeBody}
use Rattle.jclass.specs.declared.class.MemberInfo.{MemberInfo}
use Rattle.jclass.specs.CodeFormat.{begins, ends}
use Rattle.jclass.specs.MemberFormat.{body_of}
use Rattle.jclass.specs.Class.{class_file}

-- an item of a list
abbrev pub IsIn : {A : Type 0} → A → List A → Type 0
IsIn x xs = (i : ℕ) × (slice_get xs i ≡ Some x)

-- the code of a method of the class file
pub record HasCode (c : ClassParts) (body : CodeBody) : Type 0 where
  pub good : IsTrue (class_file.fits c)
  pub method : MemberInfo
  pub attribute : Attribute
  pub in_class : IsIn method c.methods
  pub in_method : IsIn attribute method.attributes
  pub is_body : body_of attribute ≡ Some body

-- A handler covers a range that begins at an instruction and ends at one or at the code's end, and leads to an instruction.
abbrev pub Leads : List Placed → Handler → Type 0
Leads ops h = (h.start < h.end) × IsTrue (begins ops h.start) × IsTrue (ends ops h.end) × IsTrue (begins ops h.at)
