-- What is asked of a class that is to be moved.
use Rattle.std.specs.Prelude.{◌≡◌, ◌<◌, ◌≤◌, ℕ, length, Option, Some, None, IsTrue}
use Rattle.jclass.specs.declared.class.Attribute.{Attribute}
use Rattle.jclass.specs.declared.class.Attribute.TheVariants.{Code}
use Rattle.jclass.specs.declared.class.ClassParts.{ClassParts}
use Rattle.jclass.specs.declared.class.CodeBody.{CodeBody}
use Rattle.jclass.specs.declared.class.MemberInfo.{MemberInfo}
use Rattle.jclass.specs.Class.{class_file}
use Rattle.jclass.specs.MemberFormat.{body_of}
use Rattle.jclass.specs.FileContents.{IsIn}
use Rattle.jmove.specs.MethodExpansion.{CanMove, limit_of}
use Rattle.jresolution.specs.jprogram.ProgramClasses.{Program}
use Rattle.jresolution.specs.jprogram.MemberResolution.{part_of}
use Rattle.jresolution.specs.jprogram.ClassFileParts.{member_desc}
use Rattle.jresolution.specs.juses.EntryUses.{AreUses}
use Rattle.jmoveclass.specs.declared.body.BodyRef.{BodyRef}
use Rattle.jmoveclass.specs.declared.moving.Moving.{Moving}
use Rattle.jmoveclass.specs.EntryLocals.{bare_beginning}
use Rattle.jmoveclass.specs.CallExpansion.{expands}
use Rattle.jmoveclass.specs.MovedMembers.{method_in}

-- each code of a method can be moved
abbrev pub CanMoveAll : Program → ClassParts → Type 0
CanMoveAll p c = (m : MemberInfo) (a : Attribute) (b : CodeBody) → IsIn m c.methods → IsIn a m.attributes → body_of a ≡ Some b
    → CanMove (method_in c m b (bare_beginning c m)) (expands p c.pool b.ops)

-- a class of a program, with the program's table
pub record IsMoving (c : Moving) : Type 0 where
  pub uses : AreUses c.program.now c.uses.now
  pub part : part_of c.program.now c.place ≡ Some c.class.now
  pub domain : c.domain < 4096
  pub good : IsTrue (class_file.fits c.class.now)
  -- linking on the source side leaves room for a context in each descriptor
  pub short : (m : MemberInfo) → IsIn m c.class.now.methods → length (member_desc c.class.now m) ≤ 65526
  pub can : CanMoveAll c.program.now c.class.now

-- none of a method's codes breaks a limit
abbrev pub HasNoLimit : Program → ClassParts → MemberInfo → Type 0
HasNoLimit p c m = (a : Attribute) (b : CodeBody) → IsIn a m.attributes → body_of a ≡ Some b
    → limit_of (method_in c m b (bare_beginning c m)) (expands p c.pool b.ops) ≡ None

abbrev pub seen_body : BodyRef → CodeBody
seen_body b = record {
  max_stack = b.max_stack;
  max_locals = b.max_locals;
  ops = b.ops.now;
  handlers = b.handlers.now;
  attributes = b.attributes.now;
}

-- the code of one of its methods
pub record IsCode (c : ClassParts) (m : MemberInfo) (b : CodeBody) : Type 0 where
  pub method : IsIn m c.methods
  pub attribute : Attribute
  pub there : IsIn attribute m.attributes
  pub is_body : body_of attribute ≡ Some b

-- the name and the code of an attribute that is code
abbrev pub named_body : Attribute → Option (ℕ × CodeBody)
named_body (Code name stack locals ops handlers others) = Some
    (name, record { max_stack = stack; max_locals = locals; ops = ops; handlers = handlers; attributes = others })
named_body _ = None
