-- How the classes of a job link: the program that they make, or the refusal by the first rule of linking that they break.
use Rattle.std.specs.Prelude.{◌≡◌, ℕ, List, [], ◌++◌, Option, Some, None, option_map, option_and_then, Result, Ok, Err, IsTrue, slice_get}
use Rattle.std.specs.Result.{result_unwrap_or}
use Rattle.jground.specs.jtext.Modified.{text}
use Rattle.jclass.specs.declared.class.ClassParts.{ClassParts}
use Rattle.jclass.specs.declared.class.MemberInfo.{MemberInfo}
use Rattle.jclass.specs.Class.{class_file}
use Rattle.jresolution.specs.declared.jprogram.fault.LinkFault.{LinkFault}
use Rattle.jresolution.specs.declared.jprogram.part.CodePart.{CodePart}
use Rattle.jresolution.specs.jprogram.ClassFileParts.{member_desc, member_name, this_name}
use Rattle.jresolution.specs.jprogram.ProgramClasses.{Program}
use Rattle.jlinking.specs.jlink.LinkedPrograms.{AreParts, link_fault}
use Rattle.jshow.specs.declared.refusal.Refusal.{Refusal}
use Rattle.jshow.specs.declared.refusal.Refusal.TheVariants.{BadLink}
use Rattle.jtasks.specs.jstages.Stages.{Stopped, Refused}

-- ---- names

-- the text that bytes spell in modified UTF-8, as those of a class file that was read do
abbrev pub units_in : List ℕ → List ℕ
units_in bytes = result_unwrap_or (text.read bytes) []

-- a member's name and behind it its descriptor
abbrev pub member_text : ClassParts → MemberInfo → List ℕ
member_text c m = units_in (member_name c m ++ member_desc c m)

-- the member at a place: methods come first, and then fields
abbrev pub member_at : ClassParts → ℕ → Option MemberInfo
member_at c i = slice_get (c.methods ++ c.fields) i

abbrev pub member_told : ClassParts → Option ℕ → Option (List ℕ)
member_told c o = option_and_then (λ i. option_map (member_text c) (member_at c i)) o

-- parts that may be linked, each of them a class file
pub record AreClasses (classes : List CodePart) : Type 0 where
  pub parts : AreParts classes
  pub files : (i : ℕ) (part : CodePart) → slice_get classes i ≡ Some part → IsTrue (class_file.fits part.class)

-- ---- the refusal

abbrev pub refusal_in : LinkFault → Option CodePart → Refusal
refusal_in fault (Some part) = BadLink (units_in (this_name part.class)) (member_told part.class fault.member) fault.kind
refusal_in fault None = BadLink [] None fault.kind

-- the refusal of parts by a broken rule, with the class and the member that break it
abbrev pub link_refusal : List CodePart → LinkFault → Refusal
link_refusal parts fault = refusal_in fault (slice_get parts fault.class)

abbrev pub unless_broken : Program → Option LinkFault → Result Program Stopped
unless_broken p = elim [ Some fault ↦ Err (Refused (link_refusal p.parts fault)) | None ↦ Ok p ]

-- a program that links, or its refusal
unfoldable pub linked : Program → Result Program Stopped
linked p = unless_broken p (link_fault p)
