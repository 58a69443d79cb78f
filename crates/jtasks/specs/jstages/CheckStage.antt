-- How a job's program is checked: the program, or the refusal by the first place where it isn't well typed.
use Rattle.std.specs.Prelude.{ℕ, List, [], Option, Some, None, unwrap_or, option_map, Result, Ok, Err, slice_get}
use Rattle.jclass.specs.declared.class.ClassParts.{ClassParts}
use Rattle.jclass.specs.declared.class.MemberInfo.{MemberInfo}
use Rattle.jresolution.specs.declared.jprogram.part.CodePart.{CodePart}
use Rattle.jresolution.specs.jprogram.ClassFileParts.{this_name}
use Rattle.jresolution.specs.jprogram.ProgramClasses.{Program}
use Rattle.jtyping.specs.jwelltyped.VerifierTests.{Place, type_fault}
use Rattle.jshow.specs.declared.refusal.Refusal.{Refusal}
use Rattle.jshow.specs.declared.refusal.Refusal.TheVariants.{BadCheck}
use Rattle.jtasks.specs.jstages.LinkStage.{member_text, units_in}
use Rattle.jtasks.specs.jstages.Stages.{Stopped, Refused}

-- ---- the refusal

-- a method's name and behind it its descriptor
abbrev pub method_told : ClassParts → Option MemberInfo → List ℕ
method_told c o = unwrap_or (option_map (member_text c) o) []

-- the refusal of a class by the place of a method among its own and of a byte in it
abbrev pub refusal_at : ℕ → ℕ → Option CodePart → Refusal
refusal_at method at None = BadCheck [] [] at
refusal_at method at (Some part) = BadCheck (units_in (this_name part.class)) (method_told part.class (slice_get part.class.methods method)) at

-- the refusal of parts by the first place where they aren't well typed
abbrev pub check_refusal : List CodePart → Place → Refusal
check_refusal parts place = refusal_at place.method place.at (slice_get parts place.class)

abbrev pub unless_untyped : Program → Option Place → Result Program Stopped
unless_untyped p = elim [ Some place ↦ Err (Refused (check_refusal p.parts place)) | None ↦ Ok p ]

-- a program that is well typed, or its refusal
unfoldable pub checked : Program → Result Program Stopped
checked p = unless_untyped p (type_fault p)
