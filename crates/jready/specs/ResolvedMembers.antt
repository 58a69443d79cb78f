-- What the members are to which references resolve (JVMS 5.4.3).
use Rattle.std.specs.Prelude.{◌≡◌, ℕ, List, Some}
use Rattle.jclass.specs.declared.class.ClassParts.{ClassParts}
use Rattle.jclass.specs.declared.class.MemberInfo.{MemberInfo}
use Rattle.jresolution.specs.declared.jprogram.member.Member.{Member}
use Rattle.jresolution.specs.declared.jprogram.member.Member.TheVariants.{Field, Method, LibField, LibMethod}
use Rattle.jresolution.specs.jprogram.ProgramClasses.{Program}
use Rattle.jresolution.specs.jprogram.MemberResolution.{info_of}
use Rattle.jresolution.specs.jprogram.ClassFileParts.{member_desc}

-- A user's member, which is there, and has this descriptor.
pub record IsThere (p : Program) (m : Member) (desc : List ℕ) : Type 0 where
  pub class : ClassParts
  pub info : MemberInfo
  pub found : info_of p m ≡ Some (class, info)
  pub described : member_desc class info ≡ desc

-- A field: a user's, which is there, or the library's one.
abbrev pub IsField : Program → Member → List ℕ → Type 0
IsField p (Field i j) desc = IsThere p (Field i j) desc
IsField p LibField desc = Unit {0}
IsField p m desc = ⊥

-- A method: a user's, which is there, or one of the library.
abbrev pub IsMethod : Program → Member → List ℕ → Type 0
IsMethod p (Method m) desc = IsThere p (Method m) desc
IsMethod p (LibMethod m) desc = Unit {0}
IsMethod p m desc = ⊥

-- It is one, whatever its descriptor.
pub record IsCalled (p : Program) (m : Member) : Type 0 where
  pub desc : List ℕ
  pub is : IsMethod p m desc
