-- What a reference to a field or a method may be used for (JVMS 4.4.2, 5.4.3, 5.4.4, 6.5).
use Rattle.std.specs.Prelude.{ℕ, ◌+◌, Bool, true, false, ◌&&◌, ◌||◌, not, ◌==◌, List, Option, Some, None, option_map, codes, if◌then◌else◌}
use Rattle.std.specs.List.{list_any}
use Rattle.std.specs.Str.{bytes_eq}
use Rattle.jground.specs.jbase.FirstFaults.{fault_if, or_else}
use Rattle.jparts.specs.declared.jpool.descriptor.Descriptor.{Descriptor}
use Rattle.jparts.specs.declared.jpool.descriptor.Descriptor.TheVariants as descriptors
use Rattle.jparts.specs.declared.jpool.descriptor.FieldType.{FieldType}
use Rattle.jparts.specs.jpool.Descriptors.{descriptor_of, method_slots}
use Rattle.jparts.specs.declared.jcode.names.CallOp.{CallOp}
use Rattle.jparts.specs.declared.jcode.names.CallOp.TheVariants as calls
use Rattle.jparts.specs.declared.jcode.names.FieldOp.{FieldOp}
use Rattle.jparts.specs.declared.jcode.names.FieldOp.TheVariants as fields
use Rattle.jresolution.specs.declared.jprogram.fault.LinkKind.{LinkKind}
use Rattle.jresolution.specs.declared.jprogram.fault.LinkKind.TheVariants.{BadUse, LeftOut, NoMember, NotAccessible}
use Rattle.jresolution.specs.declared.jprogram.member.Member.{Member}
use Rattle.jresolution.specs.jprogram.ProgramClasses.{Program, extends, find, holds, is_interface}
use Rattle.jresolution.specs.jprogram.MemberResolution.{init, is_final, is_private, is_static, may_use, owner_of, reach_of}
use Rattle.jlinking.specs.declared.jreferring.judged.DescUse.{DescUse}
use Rattle.jlinking.specs.declared.jreferring.judged.MemberFacts.{MemberFacts}
use Rattle.jlinking.specs.declared.jreferring.judged.MemberUse.{MemberUse}
use Rattle.jlinking.specs.declared.jreferring.judged.OwnerUse.{OwnerUse}
use Rattle.jlinking.specs.declared.jreferring.judged.Sort.{Sort}
use Rattle.jlinking.specs.declared.jreferring.judged.Sort.TheVariants as sort
use Rattle.jlinking.specs.jreferring.ClassNameAccess.{desc_test, is_array, type_named, type_test}
use Rattle.jresolution.specs.jprogram.UnsupportedTypes.{is_context}

-- ---- contexts in descriptors

-- the one method that returns a context
abbrev pub is_enter : List ℕ → List ℕ → List ℕ → Bool
is_enter owner name desc = bytes_eq owner (codes "sps/Rt") && bytes_eq name (codes "enter") && bytes_eq desc (codes "(Lsps/Ctx;I)Lsps/Ctx;")

abbrev pub has_contexts : FieldType → Bool
has_contexts t = is_array t && is_context t

abbrev pub gives_context : Option FieldType → Bool
gives_context = elim [ None ↦ false | Some t ↦ is_context t ]

-- a context stands as a field's type, in an array, or as what a method returns, but for the method that may
abbrev pub misplaces_context : Bool → Option Descriptor → Bool
misplaces_context enter None = false
misplaces_context enter (Some (descriptors.Field t)) = is_context t
misplaces_context enter (Some (descriptors.Method params ret)) = list_any has_contexts params || (not enter && gives_context ret)

-- ---- a reference, seen from a class

-- a Methodref of an interface, or an InterfaceMethodref of a class
abbrev pub is_crossed : Sort → Bool → Bool
is_crossed x interface = elim x [ sort.Field ↦ false | sort.Method ↦ interface | sort.InterfaceMethod ↦ not interface ]

-- the member that it stands for: whether the class may use it, and whether it is a final field that the class may not put, one of another class;
-- `System.out` is such a field to all
abbrev pub facts_of : Program → List ℕ → Member → MemberFacts
facts_of p from m = record {
  allowed = may_use p from m;
  fixed = is_final p m && not (bytes_eq (owner_of p m) from);
  is_static = is_static p m;
  is_private = is_private (reach_of p m);
}

-- the class of a reference
abbrev pub owner_use : Program → List ℕ → List ℕ → OwnerUse
owner_use p from owner = record {
  names = type_test p from (type_named owner);
  array = is_array (type_named owner);
  interface = holds is_interface (find p owner);
  upward = extends p from owner;
}

-- its descriptor
abbrev pub desc_use : Program → List ℕ → List ℕ → DescUse
desc_use p from desc = record {
  names = desc_test p from (descriptor_of desc);
  misplaced = misplaces_context false (descriptor_of desc);
  misplaced_at_enter = misplaces_context true (descriptor_of desc);
  slots = method_slots desc;
}

-- whether a context stands where none may, said of both cases
abbrev pub is_barred_by : OwnerUse → Bool → DescUse → Bool
is_barred_by owner enter desc = owner.array || (if enter then desc.misplaced_at_enter else desc.misplaced)

abbrev pub member_use : Program → List ℕ → Sort → Option Member → List ℕ → List ℕ → List ℕ → MemberUse
member_use p from kind member owner name desc = record {
  names = or_else (type_test p from (type_named owner)) (desc_test p from (descriptor_of desc));
  barred = is_array (type_named owner) || misplaces_context (is_enter owner name desc) (descriptor_of desc);
  of_interface = elim kind [ sort.InterfaceMethod ↦ true | _ ↦ false ];
  crossed = is_crossed kind (holds is_interface (find p owner));
  upward = extends p from owner;
  init = bytes_eq name init;
  slots = method_slots desc;
  member = option_map (facts_of p from) member;
}

-- ---- the tests of its uses

abbrev pub differs : Bool → Bool → Bool
differs x b = elim x [ true ↦ not b | false ↦ b ]

-- the class may use the member, and put it where it does
abbrev pub access_test : Bool → MemberFacts → Option LinkKind
access_test put m = fault_if (not m.allowed || (put && m.fixed)) NotAccessible

-- getfield, putfield, getstatic and putstatic

abbrev pub puts : FieldOp → Bool
puts = elim [ fields.PutStatic ↦ true | fields.PutField ↦ true | _ ↦ false ]

abbrev pub takes_static : FieldOp → Bool
takes_static = elim [ fields.GetStatic ↦ true | fields.PutStatic ↦ true | _ ↦ false ]

abbrev pub field_member_test : FieldOp → Option MemberFacts → Option LinkKind
field_member_test op None = Some NoMember
field_member_test op (Some m) = or_else (access_test (puts op) m) (fault_if (differs (takes_static op) m.is_static) BadUse)

abbrev pub field_test : FieldOp → MemberUse → Option LinkKind
field_test op u = or_else u.names (or_else (fault_if u.barred LeftOut) (field_member_test op u.member))

-- invokevirtual, invokespecial and invokestatic

-- invokevirtual calls neither a constructor nor a private method; invokespecial calls a constructor, or a method of its own class or of
-- one above; invokestatic calls no constructor
abbrev pub is_miscalled : CallOp → MemberUse → MemberFacts → Bool
is_miscalled x u m = elim x [ calls.Virtual ↦ u.init || m.is_private | calls.Special ↦ not (u.init || u.upward) | calls.Static ↦ u.init ]

abbrev pub call_use_test : CallOp → MemberUse → MemberFacts → Option LinkKind
call_use_test op u m = fault_if (differs (elim op [ calls.Static ↦ true | _ ↦ false ]) m.is_static || (u.crossed || is_miscalled op u m)) BadUse

abbrev pub called_test : CallOp → MemberUse → Option MemberFacts → Option LinkKind
called_test op u = elim [ None ↦ Some NoMember | Some m ↦ or_else (access_test false m) (call_use_test op u m) ]

-- invokespecial and invokestatic call no method of an interface
abbrev pub call_left_out_test : CallOp → MemberUse → Option LinkKind
call_left_out_test op u = fault_if (u.barred || (not (elim op [ calls.Virtual ↦ true | _ ↦ false ]) && u.of_interface)) LeftOut

abbrev pub call_test : CallOp → MemberUse → Option LinkKind
call_test op u = or_else u.names (or_else (call_left_out_test op u) (called_test op u u.member))

-- invokeinterface

-- it counts the slots of the arguments and of the receiver
abbrev pub counts : ℕ → Option ℕ → Bool
counts count = elim [ None ↦ false | Some slots ↦ slots + 1 == count ]

abbrev pub is_misused : ℕ → MemberUse → MemberFacts → Bool
is_misused count u m = m.is_static || (u.crossed || (u.init || (m.is_private || not (counts count u.slots))))

abbrev pub called_by_interface_test : ℕ → MemberUse → Option MemberFacts → Option LinkKind
called_by_interface_test count u = elim [ None ↦ Some NoMember | Some m ↦ or_else (access_test false m) (fault_if (is_misused count u m) BadUse) ]

abbrev pub interface_test : ℕ → MemberUse → Option LinkKind
interface_test count u = or_else u.names (or_else (fault_if u.barred LeftOut) (called_by_interface_test count u u.member))
