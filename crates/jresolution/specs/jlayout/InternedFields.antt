-- The fields of users' classes, by number.
use Rattle.std.specs.Prelude.{◌≡◌, ℕ, List, map, Some, slice_get}
use Rattle.std.specs.List.{flat_map}
use Rattle.jclass.specs.declared.class.MemberInfo.{MemberInfo}
use Rattle.jresolution.specs.declared.jprogram.part.CodePart.{CodePart}
use Rattle.jresolution.specs.jprogram.ProgramClasses.{Program}
use Rattle.jresolution.specs.jlayout.FieldLayout.{statics_of}

-- The class at a place is this part's, and the field at a place of it this one.
pub record IsFieldOf (p : Program) (i j : ℕ) (part : CodePart) (m : MemberInfo) : Type 0 where
  pub stands : slice_get p.parts i ≡ Some part
  pub declared : slice_get part.class.fields j ≡ Some m

-- the statics of a program, each with the part of its class, in the order in which they stand
abbrev pub all_statics : Program → List (CodePart × MemberInfo)
all_statics p = flat_map (λ (part : CodePart). map (λ (m : MemberInfo). (part, m)) (statics_of part)) p.parts
