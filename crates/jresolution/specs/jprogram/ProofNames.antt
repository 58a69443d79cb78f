-- Names by which proofs and the contracts of inner functions call what the definitions say in place. What `javasec` and `dispatch` promise
-- reaches none of them.
use Rattle.std.specs.Prelude.{◌++◌, List, ℕ, Bool, false, Option, None, Some, true, not, ◌||◌, option_map}
use Rattle.std.specs.Option.{option_to_list}
use Rattle.std.specs.List.{position}
use Rattle.jlib.specs.declared.side.Side.{Side}
use Rattle.jclass.specs.declared.class.ClassParts.{ClassParts}
use Rattle.jlib.specs.declared.side.Side.TheVariants.{Source, Passing}
use Rattle.jparts.specs.declared.jpool.descriptor.FieldType.{FieldType}
use Rattle.jresolution.specs.jprogram.ProgramClasses.{Program, above_name, face_names, holds, is_interface, find, Class, is_closed, User}
use Rattle.jresolution.specs.jprogram.NameChecks.{names_reserved, type_reserved}
use Rattle.jresolution.specs.jprogram.SuperChecks.{is_missing}
use Rattle.jresolution.specs.declared.jprogram.member.MethodId.{MethodId}
use Rattle.jresolution.specs.jprogram.MemberResolution.{method_id, is_main}
use Rattle.jresolution.specs.jprogram.ProgramClasses as classes

-- ---- of ProgramClasses

-- the names that a class stands directly below: of its superclass and of its interfaces
abbrev pub supers : Program → List ℕ → List (List ℕ)
supers p c = option_to_list (above_name p c) ++ face_names p c

-- ---- of MemberResolution

abbrev pub is_public_at : Program → List ℕ → Bool
is_public_at p class = classes.holds classes.is_public (classes.find p class)

-- ---- of NameChecks

-- on the source side alone
abbrev pub reserved_on : Side → ClassParts → Bool
reserved_on x c = elim x [ Source ↦ names_reserved c | Passing ↦ false ]

abbrev pub return_reserved : Option FieldType → Bool
return_reserved = elim [ None ↦ false | Some t ↦ type_reserved t ]

-- ---- of SuperChecks

abbrev pub super_missing : Program → Option (List ℕ) → Bool
super_missing p = elim [ None ↦ true | Some name ↦ is_missing p name ]

abbrev pub is_no_interface : Program → List ℕ → Bool
is_no_interface p name = not (holds is_interface (find p name))

-- a class that is final or closed, or an interface
abbrev pub is_barred : Class → Bool
is_barred s = is_closed s || is_interface s

-- ---- of MemberResolution

abbrev pub main_in : Side → Option Class → Option MethodId
main_in side (Some (User i c)) = option_map (method_id i) (position (is_main side c) c.methods)
main_in side _ = None
