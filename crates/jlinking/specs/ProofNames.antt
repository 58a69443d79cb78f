-- Names by which proofs and the contracts of inner functions call what the definitions say in place. What `javasec` and `dispatch` promise
-- reaches none of them.
use Rattle.std.specs.Prelude.{ℕ, Option, List, Bool, None, false, Some, true, ◌||◌, option_and_then}
use Rattle.jresolution.specs.jprogram.ProgramClasses.{Program, find}
use Rattle.jclass.specs.declared.class.ClassParts.{ClassParts}
use Rattle.jresolution.specs.declared.jprogram.fault.LinkFault.{LinkFault}
use Rattle.jground.specs.jbase.FirstFaults.{or_else, first_along}
use Rattle.jparts.specs.declared.jpool.descriptor.FieldType.{FieldType}
use Rattle.jparts.specs.declared.jpool.entry.Entry.{Entry}
use Rattle.jclass.specs.declared.class.MemberInfo.{MemberInfo}
use Rattle.jparts.specs.declared.jcode.names.CallOp.{CallOp}
use Rattle.jresolution.specs.declared.jprogram.fault.LinkKind.{LinkKind}
use Rattle.jparts.specs.declared.jpool.descriptor.Descriptor.{Descriptor}
use Rattle.jparts.specs.declared.jcode.names.FieldOp.{FieldOp}
use Rattle.jparts.specs.declared.jcode.names.CallOp.TheVariants as calls
use Rattle.jlinking.specs.jmembers.MemberDeclarations.{methods_fault as declares_methods_fault, fields_fault, is_fixed_by, type_left_out, type_missing, at_member}
use Rattle.jlinking.specs.declared.jreferring.judged.Judged.{Judged}
use Rattle.jlinking.specs.jreferring.CodeChecks.{method_test}
use Rattle.jlinking.specs.declared.jreferring.judged.MemberUse.{MemberUse}
use Rattle.jlinking.specs.jreferring.ReferenceUses.{called_test, called_by_interface_test, misplaces_context, call_test, field_test, interface_test}
use Rattle.jlinking.specs.declared.jreferring.judged.Sort.{Sort}
use Rattle.jlinking.specs.jreferring.ClassNameAccess.{is_array, type_test, desc_test}
use Rattle.jlinking.specs.jreferring.CodeUnits.{or_no_member, member_at, class_at}
use Rattle.jlinking.specs.jreferring.ClassEntryUses.{new_test}
use Rattle.jlinking.specs.declared.jreferring.judged.ClassUse.{ClassUse}
use Rattle.jlinking.specs.declared.jreferring.judged.Sort.TheVariants as sort
use Rattle.jlinking.specs.declared.jreferring.judged.Judged.TheVariants as judged

-- ---- of jmembers.MemberDeclarations

abbrev pub class_fault : Program → ℕ → ClassParts → Option LinkFault
class_fault p i c = or_else (declares_methods_fault p i c) (fields_fault p i c)

abbrev pub is_fixed_at : Program → List ℕ → List ℕ → List ℕ → Bool
is_fixed_at p name desc class = is_fixed_by name desc (find p class)

abbrev pub return_left_out : Option FieldType → Bool
return_left_out = elim [ None ↦ false | Some t ↦ type_left_out t ]

abbrev pub return_missing : Program → Option FieldType → Bool
return_missing p = elim [ None ↦ false | Some t ↦ type_missing p t ]

-- ---- of jreferring.CodeChecks

abbrev pub methods_fault : Program → ℕ → List ℕ → List Entry → List Judged → List MemberInfo → Option LinkFault
methods_fault p i from pool table ms = first_along (λ j m. at_member i j (method_test p from pool table m)) 0 ms

-- ---- of jreferring.ReferenceUses

abbrev pub call_member_test : CallOp → MemberUse → Option LinkKind
call_member_test op u = called_test op u u.member

abbrev pub interface_member_test : ℕ → MemberUse → Option LinkKind
interface_member_test count u = called_by_interface_test count u u.member

abbrev pub is_of_interface : Sort → Bool
is_of_interface = elim [ sort.InterfaceMethod ↦ true | _ ↦ false ]

-- a member of an array is left out, and so is a misplaced context
abbrev pub is_barred : FieldType → Bool → Option Descriptor → Bool
is_barred owner enter desc = is_array owner || misplaces_context enter desc

-- its class is named first, and then what its descriptor names
abbrev pub names_test : Program → List ℕ → FieldType → Option Descriptor → Option LinkKind
names_test p from owner desc = or_else (type_test p from owner) (desc_test p from desc)

abbrev pub is_virtual : CallOp → Bool
is_virtual = elim [ calls.Virtual ↦ true | _ ↦ false ]

abbrev pub calls_static : CallOp → Bool
calls_static = elim [ calls.Static ↦ true | _ ↦ false ]

-- ---- of jreferring.CodeUnits

abbrev pub call_at : List Judged → CallOp → ℕ → Option LinkKind
call_at table op n = or_no_member (call_test op) (member_at table n)

abbrev pub field_at : List Judged → FieldOp → ℕ → Option LinkKind
field_at table op n = or_no_member (field_test op) (member_at table n)

abbrev pub interface_call_at : List Judged → ℕ → ℕ → Option LinkKind
interface_call_at table n count = or_no_member (interface_test count) (member_at table n)

abbrev pub new_at : List Judged → ℕ → Option LinkKind
new_at table n = option_and_then new_test (class_at table n)

abbrev pub class_in : Option Judged → Option ClassUse
class_in (Some (judged.Class u)) = Some u
class_in _ = None

abbrev pub member_in : Option Judged → Option MemberUse
member_in (Some (judged.Member u)) = Some u
member_in _ = None
