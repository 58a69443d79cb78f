-- The third phase of linking: what members a class may declare (JVMS 4.5, 4.6, 5.4.5).
use Rattle.std.specs.Prelude.{ℕ, ◌+◌, Bool, false, ◌&&◌, ◌||◌, not, List, [], ◌∷◌, ◌++◌, length, take, Option, Some, None, nat_lt, codes, if◌then◌else◌}
use Rattle.std.specs.List.{list_any}
use Rattle.std.specs.Str.{bytes_eq}
use Rattle.jground.specs.jbase.FirstFaults.{fault_if, first_along, or_else}
use Rattle.jparts.specs.declared.jpool.descriptor.Descriptor.{Descriptor}
use Rattle.jparts.specs.declared.jpool.descriptor.Descriptor.TheVariants as descriptors
use Rattle.jparts.specs.declared.jpool.descriptor.FieldType.{FieldType}
use Rattle.jparts.specs.jpool.Descriptors.{descriptor_of, is_class_sign}
use Rattle.jclass.specs.declared.access.Access.{Access}
use Rattle.jclass.specs.declared.class.ClassParts.{ClassParts}
use Rattle.jclass.specs.declared.class.MemberInfo.{MemberInfo}
use Rattle.jclass.specs.FlagRules.{has_flag}
use Rattle.jlib.specs.declared.side.Side.{Side}
use Rattle.jlib.specs.declared.side.Side.TheVariants.{Source, Passing}
use Rattle.jlib.specs.LibraryMembers.{fixes}
use Rattle.jlib.specs.LibraryClasses as library
use Rattle.jresolution.specs.declared.jprogram.fault.LinkKind.{LinkKind}
use Rattle.jresolution.specs.declared.jprogram.fault.LinkKind.TheVariants.{FinalMethod, LeftOut, NoClass, OverridesLibrary, Twice}
use Rattle.jresolution.specs.declared.jprogram.fault.LinkFault.{LinkFault}
use Rattle.jresolution.specs.declared.jprogram.member.Member.{Member}
use Rattle.jresolution.specs.declared.jprogram.member.Member.TheVariants.{Method}
use Rattle.jresolution.specs.jprogram.UnsupportedTypes.{is_context, is_floating}
use Rattle.jresolution.specs.jprogram.ClassFileParts as parts
use Rattle.jresolution.specs.jprogram.ClassFileParts.{has_code, is_called, member_desc, member_name, super_name}
use Rattle.jresolution.specs.jprogram.ProgramClasses.{Class, Lib, Program, find, onward, up}
use Rattle.jresolution.specs.jprogram.MemberResolution.{init, is_final, is_static, method_id, methods_along, overrides}
use Rattle.jresolution.specs.jprogram.SuperChecks.{is_missing}

-- ---- faults at their places

-- a fault of a member of the class at a place: methods count from 0, and fields go on behind them
abbrev pub at_member : ℕ → ℕ → Option LinkKind → Option LinkFault
at_member i k = elim [ None ↦ None | Some kind ↦ Some (record { class = i; member = Some k; kind = kind }) ]

-- ---- a member that stands already

-- one of these has its name and descriptor
abbrev pub is_again : ClassParts → List MemberInfo → MemberInfo → Bool
is_again c before m = list_any (is_called c (member_name c m) (member_desc c m)) before

unfoldable pub again_test : ClassParts → List MemberInfo → MemberInfo → Option LinkKind
again_test c before m = fault_if (is_again c before m) Twice

-- ---- what is left out of descriptors

-- a context may be a parameter, but stands in no array
abbrev pub param_left_out : FieldType → Bool
param_left_out t = is_floating t || (is_context t && nat_lt 0 t.depth)

-- it is no field's type, and isn't returned
abbrev pub type_left_out : FieldType → Bool
type_left_out t = is_floating t || is_context t

abbrev pub desc_left_out : Option Descriptor → Bool
desc_left_out None = false
desc_left_out (Some (descriptors.Field t)) = type_left_out t
desc_left_out (Some (descriptors.Method params ret)) = list_any param_left_out params || (elim ret [ None ↦ false | Some t ↦ type_left_out t ])

unfoldable pub text_left_out : List ℕ → Bool
text_left_out desc = desc_left_out (descriptor_of desc)

-- ---- what is left out of members

abbrev pub is_native : Access → Bool
is_native a = has_flag 0x0100 a

abbrev pub is_synchronized : Access → Bool
is_synchronized a = has_flag 0x0020 a

-- behind a method's parameters the passing form puts a context, of 9 bytes
abbrev pub is_too_long : Side → List ℕ → Bool
is_too_long x desc = elim x [ Source ↦ nat_lt 65526 (length desc) | Passing ↦ false ]

-- a class initializer, native and synchronized methods, code in an interface, a descriptor too long for a context
abbrev pub method_left_out : Side → ClassParts → MemberInfo → Bool
method_left_out side c m =
    bytes_eq (member_name c m) (codes "<clinit>")
    || (is_native m.flags || (is_synchronized m.flags || ((parts.is_interface c.flags && has_code m) || is_too_long side (member_desc c m))))

-- an instance field of an interface
abbrev pub field_left_out : ClassParts → MemberInfo → Bool
field_left_out c m = parts.is_interface c.flags && not (parts.is_static m.flags)

unfoldable pub method_left_out_test : Side → ClassParts → MemberInfo → Option LinkKind
method_left_out_test side c m = fault_if (method_left_out side c m || text_left_out (member_desc c m)) LeftOut

unfoldable pub field_left_out_test : ClassParts → MemberInfo → Option LinkKind
field_left_out_test c m = fault_if (field_left_out c m || text_left_out (member_desc c m)) LeftOut

-- ---- classes that descriptors name

-- an array's class is that of its elements
abbrev pub type_missing : Program → FieldType → Bool
type_missing p t = is_class_sign t.base && is_missing p t.class

abbrev pub desc_missing : Program → Option Descriptor → Bool
desc_missing p None = false
desc_missing p (Some (descriptors.Field t)) = type_missing p t
desc_missing p (Some (descriptors.Method params ret)) = list_any (type_missing p) params || (elim ret [ None ↦ false | Some t ↦ type_missing p t ])

unfoldable pub text_missing : Program → List ℕ → Bool
text_missing p desc = desc_missing p (descriptor_of desc)

unfoldable pub types_test : Program → ClassParts → MemberInfo → Option LinkKind
types_test p c m = fault_if (text_missing p (member_desc c m)) NoClass

-- ---- what stands above

-- the names of the classes above a class, nearest first
abbrev pub names_above : Program → ClassParts → List (List ℕ)
names_above p c = onward (up p) (super_name c)

-- ---- methods of the library

-- an open class of the library that has a concrete instance method of this name and descriptor
abbrev pub is_fixed_by : List ℕ → List ℕ → Option Class → Bool
is_fixed_by name desc (Some (Lib c)) = fixes name desc c
is_fixed_by name desc _ = false

-- for an interface any open class counts, as its methods may come to stand in a class below each of them
abbrev pub is_fixed : Program → ClassParts → List ℕ → List ℕ → Bool
is_fixed p c name desc =
    if parts.is_interface c.flags then list_any (fixes name desc) library.open_classes
    else list_any (λ class. is_fixed_by name desc (find p class)) (names_above p c)

-- static methods too
unfoldable pub library_test : Program → ClassParts → MemberInfo → Option LinkKind
library_test p c m = fault_if (is_fixed p c (member_name c m) (member_desc c m)) OverridesLibrary

-- ---- final methods

-- a user's final instance method: the library has none
abbrev pub is_sealed : Program → Member → Bool
is_sealed p m = is_final p m && not (is_static p m)

-- it overrides a final one of those above, nearest first; `between` stand in front of them
unfoldable pub overrides_final : Program → Member → List Member → List Member → Bool
overrides_final p m between [] = false
overrides_final p m between (r ∷ rest) = (is_sealed p r && overrides p m between r) || overrides_final p m (between ++ r ∷ []) rest

-- the methods of a name and a descriptor in the classes above
abbrev pub methods_above : Program → ClassParts → List ℕ → List ℕ → List Member
methods_above p c name desc = methods_along p name desc (names_above p c)

-- the class stands at place i, and the method at place k of its methods
unfoldable pub final_test : Program → ℕ → ClassParts → ℕ → MemberInfo → Option LinkKind
final_test p i c k m =
    fault_if (not (bytes_eq (member_name c m) init) && overrides_final p (Method (method_id i k)) []
    (methods_above p c (member_name c m) (member_desc c m))) FinalMethod

-- ---- the phase

-- `before` are the class's methods in front of it
abbrev pub method_test : Program → ℕ → ClassParts → List MemberInfo → ℕ → MemberInfo → Option LinkKind
method_test p i c before k m =
    or_else (again_test c before m)
    (or_else (method_left_out_test p.side c m) (or_else (types_test p c m) (or_else (library_test p c m) (final_test p i c k m))))

abbrev pub field_test : Program → ClassParts → List MemberInfo → MemberInfo → Option LinkKind
field_test p c before m = or_else (again_test c before m) (or_else (field_left_out_test c m) (types_test p c m))

unfoldable pub methods_fault : Program → ℕ → ClassParts → Option LinkFault
methods_fault p i c = first_along (λ k m. at_member i k (method_test p i c (take k c.methods) k m)) 0 c.methods

unfoldable pub fields_fault : Program → ℕ → ClassParts → Option LinkFault
fields_fault p i c = first_along (λ k m. at_member i (length c.methods + k) (field_test p c (take k c.fields) m)) 0 c.fields

unfoldable pub members_fault : Program → Option LinkFault
members_fault p = first_along (λ i part. or_else (methods_fault p i part.class) (fields_fault p i part.class)) 0 p.parts
