-- The state in which a run begins (JVMS 4.7.2, 5.2): `System.out`, the strings of ConstantValues, the statics, and the frame of `main`.
use Rattle.std.specs.Prelude.{ℕ, ◌+◌, ◌-◌, false, List, [], ◌∷◌, ◌++◌, length, map, Option, Some, None, option_map, option_and_then, unwrap_or, slice_get, sum_by, if◌then◌else◌}
use Rattle.std.specs.List.{filter_map, flat_map, list_any, zip, range_with_len}
use Rattle.std.specs.Str.{bytes_eq}
use Rattle.jground.specs.jbase.FirstFaults.{first_some}
use Rattle.jparts.specs.declared.jpool.entry.Entry.{Entry}
use Rattle.jparts.specs.declared.jpool.entry.Entry.TheVariants as entries
use Rattle.jlib.specs.declared.classes.LibClass.TheVariants as lib
use Rattle.jtypes.specs.declared.vtype.ArrayType.{ArrayType}
use Rattle.jtypes.specs.declared.vtype.Element.TheVariants as elements
use Rattle.jvalues.specs.declared.jops.value.Value.{Value}
use Rattle.jvalues.specs.declared.jops.value.Value.TheVariants.{Int, Long, Ref}
use Rattle.jthreads.specs.ThreadTables as threads
use Rattle.jclass.specs.declared.class.Attribute.{Attribute}
use Rattle.jclass.specs.declared.class.Attribute.TheVariants as attributes
use Rattle.jclass.specs.declared.class.ClassParts.{ClassParts}
use Rattle.jclass.specs.declared.class.MemberInfo.{MemberInfo}
use Rattle.jresolution.specs.declared.jprogram.member.MethodId.{MethodId}
use Rattle.jresolution.specs.declared.jprogram.part.CodePart.{CodePart}
use Rattle.jresolution.specs.jprogram.ProgramClasses.{Program}
use Rattle.jresolution.specs.jprogram.ClassFileParts.{member_desc, text}
use Rattle.jsemantics.specs.jmachine.MachineStates.{FrameOf, GuestOf, State, cells_of}
use Rattle.jsemantics.specs.jmachine.FieldInstructions.{out}
use Rattle.jsemantics.specs.jmachine.FrameOperations.{begun, domain_of}
use Rattle.jresolution.specs.jlayout.FieldLayout.{element, field_type, statics_of}
use Rattle.jsemantics.specs.jmachine.ObjectInstructions.{units_of}
use Rattle.jsemantics.specs.jmachine.Narrowing.{default, narrowed}
use Rattle.jsemantics.specs.jmachine.HeapObjects.{Object, Array, Bare, Text, library_name}
use Rattle.jsemantics.specs.jmachine.Security.{Rules, handed}
use Rattle.jsemantics.specs.jmachine.Store.{Store, constant_at}
use Rattle.std.specs.Option.{option_to_list}

-- ---- the values of statics

abbrev pub value_in : Attribute → Option ℕ
value_in = elim [ attributes.ConstantValue name value ↦ Some value | _ ↦ None ]

-- the entry that a field's ConstantValue names
abbrev pub constant_of : ClassParts → MemberInfo → Option Entry
constant_of c m = option_and_then (slice_get c.pool) (first_some value_in m.attributes)

-- the units of a constant that is a string
abbrev pub string_in : ClassParts → Option Entry → Option (List ℕ)
string_in c (Some (entries.Str i)) = Some (units_of (text c.pool i))
string_in c e = None

-- what a constant stands for, where the strings that were made are known
abbrev pub value_of : {K : Type 0} → List (List ℕ × ℕ) → ClassParts → Option Entry → Option (Value K)
value_of constants c (Some (entries.Integer n)) = Some (Int n)
value_of constants c (Some (entries.Long n)) = Some (Long n)
value_of constants c (Some (entries.Str i)) = option_map Ref (constant_at constants (units_of (text c.pool i)))
value_of constants c e = None

-- what a static holds at first: its constant as a put would leave it, else 0 or null
abbrev pub first_value : {K : Type 0} → Program → List (List ℕ × ℕ) → ClassParts → MemberInfo → Value K
first_value p constants c m = narrowed (element (member_desc c m)) (unwrap_or (value_of constants c (constant_of c m)) (default (field_type p c m)))

abbrev pub values_in : {K : Type 0} → Program → List (List ℕ × ℕ) → CodePart → List (Value K)
values_in p constants part = map (first_value p constants part.class) (statics_of part)

-- ---- the strings of constants

abbrev pub strings_in : CodePart → List (List ℕ)
strings_in part = filter_map (λ m. string_in part.class (constant_of part.class m)) (statics_of part)

-- each text once, where it stands first
unfoldable pub distinct : List (List ℕ) → List (List ℕ) → List (List ℕ)
distinct seen [] = []
distinct seen (t ∷ texts) = if list_any (bytes_eq t) seen then distinct seen texts else t ∷ distinct (t ∷ seen) texts

-- those of a program's statics, in their order
unfoldable pub strings : Program → List (List ℕ)
strings p = distinct [] (flat_map strings_in p.parts)

-- they are made behind `System.out`
abbrev pub constants_of : List (List ℕ) → List (List ℕ × ℕ)
constants_of texts = zip texts (range_with_len (out + 1) (length texts))

-- ---- the store

-- the empty array that `main` is given
abbrev pub arguments_type : ArrayType
arguments_type = record { depth = 1; element = elements.Class (library_name lib.String) }

abbrev pub first_objects : {K : Type 0} → List (List ℕ) → List (Object K)
first_objects texts = Bare lib.PrintStream ∷ (map (λ t. Text (Some t)) texts ++ Array arguments_type [] ∷ [])

-- the cells of `System.out`, of the strings and of the array
unfoldable pub opening_charge : Program → ℕ
opening_charge p = 1 + sum_by (λ t. cells_of (length t)) (strings p) + cells_of 0

abbrev pub opening_store : {K : Type 0} → Program → ℕ → Store K
opening_store p heap = record {
  objects = first_objects (strings p);
  statics = flat_map (values_in p (constants_of (strings p))) p.parts;
  constants = constants_of (strings p);
  left = heap - opening_charge p;
}

-- ---- the state

-- the number of the array
abbrev pub arguments_number : Program → ℕ
arguments_number p = out + length (strings p) + 1

-- a frame of `main`, which on the passing side is given a context
abbrev pub main_frame : {K E : Type 0} → Rules K E → Program → MethodId → Option (FrameOf K E)
main_frame r p m = begun p m (r.entry_of (domain_of p m)) (handed r.side r.first ++ Ref (arguments_number p) ∷ [])

abbrev pub main_guest : {K E : Type 0} → Rules K E → Program → MethodId → GuestOf K E
main_guest r p m = record { frames = option_to_list (main_frame r p m); inherited = None; runnable = 0; failed = false }

unfoldable pub opening_state : {K E : Type 0} → Rules K E → Program → MethodId → ℕ → State K E
opening_state r p m heap =
    record { earlier = []; running = main_guest r p m; later = []; table = threads.opened; store = opening_store p heap; turns = 0 }
