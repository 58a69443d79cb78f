-- Where fields stand: those of an object in its own list, those of classes in the one list of all statics.
use Rattle.std.specs.Prelude.{ℕ, ◌+◌, Bool, not, ◌==◌, List, [], length, map, reverse, take, drop, Option, Some, None, option_map, if◌then◌else◌, option_and_then}
use Rattle.std.specs.List.{filter, flat_map}
use Rattle.jparts.specs.declared.jpool.descriptor.Descriptor.TheVariants as descriptors
use Rattle.jparts.specs.jpool.Descriptors.{descriptor_of}
use Rattle.jclass.specs.declared.class.ClassParts.{ClassParts}
use Rattle.jclass.specs.declared.class.MemberInfo.{MemberInfo}
use Rattle.jtypes.specs.declared.vtype.Element.{Element}
use Rattle.jtypes.specs.declared.vtype.VType.{VType}
use Rattle.jtypes.specs.declared.vtype.VType.TheVariants as types
use Rattle.jtypes.specs.DescriptorElements.{element_of}
use Rattle.jresolution.specs.declared.jprogram.member.Member.{Member}
use Rattle.jresolution.specs.declared.jprogram.member.Member.TheVariants.{Field}
use Rattle.jresolution.specs.declared.jprogram.part.CodePart.{CodePart}
use Rattle.jresolution.specs.jprogram.ClassFileParts as parts
use Rattle.jresolution.specs.jprogram.ProgramClasses.{Class, Program, User, find, up}
use Rattle.jresolution.specs.jprogram.MemberResolution.{info_of}
use Rattle.jresolution.specs.juses.DescriptorTypes.{Held, name, typed}

abbrev pub is_static : MemberInfo → Bool
is_static m = parts.is_static m.flags

abbrev pub is_instance : MemberInfo → Bool
is_instance m = not (is_static m)

-- ---- the fields of an object: those of the classes above first, in each class in its order

abbrev pub field_type : Program → ClassParts → MemberInfo → VType
field_type p c m = elim (typed p (parts.member_desc c m)) [ Held t ↦ t | _ ↦ types.Top ]

abbrev pub own_types : Program → Option Class → List VType
own_types p (Some (User i c)) = map (field_type p c) (filter is_instance c.fields)
own_types p _ = []

-- of classes that stand nearest first
abbrev pub types_along : Program → List (List ℕ) → List VType
types_along p names = flat_map (λ c. own_types p (find p c)) (reverse names)

-- the types of the fields of an object of the class of a name
unfoldable pub layout : Program → List ℕ → List VType
layout p c = types_along p (up p c)

-- those of the classes above it alone
unfoldable pub layout_above : Program → List ℕ → List VType
layout_above p c = types_along p (drop 1 (up p c))

-- ---- the statics of a program: those of its classes in their order, in each class in its order

abbrev pub statics_of : CodePart → List MemberInfo
statics_of part = filter is_static part.class.fields

-- how many stand before those of the class at a place
unfoldable pub statics_before : Program → ℕ → ℕ
statics_before p i = length (flat_map statics_of (take i p.parts))

-- ---- the place of a field in its list

abbrev pub place_among : Program → ℕ → ℕ → ClassParts → MemberInfo → ℕ
place_among p i j c m =
    if is_static m then statics_before p i + length (filter is_static (take j c.fields))
    else length (layout_above p (parts.this_name c)) + length (filter is_instance (take j c.fields))

-- where a user's field stands: among the statics, or among the fields of each object that has it
unfoldable pub slot : Program → Member → Option ℕ
slot p = elim [ Field i j ↦ option_map (λ one. place_among p i j one.0 one.1) (info_of p (Field i j)) | _ ↦ None ]

-- ---- what a field holds

-- what a field of a descriptor holds, where it is no array
unfoldable pub element : List ℕ → Option Element
element desc =
    option_and_then (elim [ descriptors.Field t ↦ if t.depth == 0 then element_of t.base (name t.class) else None | _ ↦ None ]) (descriptor_of desc)
