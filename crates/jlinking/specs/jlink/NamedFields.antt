-- What linking says of a field that an instruction names (JVMS 5.4.3.2, 6.5).
use Rattle.std.specs.Prelude.{◌≡◌, ℕ, Bool, true, false}
use Rattle.jparts.specs.declared.jcode.names.FieldOp.{FieldOp}
use Rattle.jtypes.specs.declared.vtype.VType.{VType}
use Rattle.jtypes.specs.declared.vtype.VType.TheVariants.{Int, Long, Object, Array}
use Rattle.jresolution.specs.declared.jprogram.member.Member.TheVariants.{Field}
use Rattle.jresolution.specs.declared.jprogram.part.ClassRef.TheVariants as refs
use Rattle.jresolution.specs.jprogram.ProgramClasses.{Program, extends, find, holds, is_interface, name_at}
use Rattle.jresolution.specs.jprogram.MemberResolution.{is_static}
use Rattle.jresolution.specs.juses.InstructionMeanings.{FieldMeaning}
use Rattle.jlinking.specs.jreferring.ReferenceUses.{takes_static}

-- the type of an int, of a long or of a reference
abbrev pub is_plain : VType → Bool
is_plain Int = true
is_plain Long = true
is_plain (Object c) = true
is_plain (Array a) = true
is_plain t = false

-- It is static where the instruction takes a static one, and holds no security context. One of objects is that of a class which the class
-- extends by which it is named, and neither is an interface.
pub record IsNamedField (p : Program) (op : FieldOp) (f : FieldMeaning) : Type 0 where
  pub static : is_static p f.member ≡ takes_static op
  pub plain : is_plain f.held ≡ true
  pub owned : (i j : ℕ) → f.member ≡ Field i j → is_static p f.member ≡ false → extends p f.owner.0 (name_at p (refs.User i)) ≡ true
  pub class : (i j : ℕ) → f.member ≡ Field i j → is_static p f.member ≡ false → holds is_interface (find p f.owner.0) ≡ false
  pub declares : (i j : ℕ) → f.member ≡ Field i j → is_static p f.member ≡ false → holds is_interface (find p (name_at p (refs.User i))) ≡ false
