-- The types that descriptors and class entries name in a program (JVMS 4.3.2, 4.3.3, 4.4.1).
use Rattle.std.specs.Prelude.{ℕ, ◌+◌, ◌^◌, Bool, false, ◌&&◌, ◌==◌, List, reverse, Option, Some, None, is_some, option_map, nat_lt, if◌then◌else◌}
use Rattle.std.specs.Str.{byte, bytes_eq}
use Rattle.jground.specs.jbase.ListMaps.{each_some}
use Rattle.jparts.specs.declared.jpool.descriptor.Descriptor.{Descriptor}
use Rattle.jparts.specs.declared.jpool.descriptor.Descriptor.TheVariants as descriptors
use Rattle.jparts.specs.declared.jpool.descriptor.FieldType.{FieldType}
use Rattle.jparts.specs.jpool.Descriptors.{descriptor_of}
use Rattle.jtypes.specs.declared.vtype.Name.{Name}
use Rattle.jtypes.specs.declared.vtype.Element.{Element}
use Rattle.jtypes.specs.declared.vtype.Element.TheVariants as elements
use Rattle.jtypes.specs.declared.vtype.VType.{VType}
use Rattle.jtypes.specs.declared.vtype.VType.TheVariants as types
use Rattle.jtypes.specs.DescriptorElements.{element_of, in_brackets}
use Rattle.jresolution.specs.jprogram.UnsupportedTypes.{context}
use Rattle.jresolution.specs.jprogram.ProgramClasses.{Program, find}

abbrev pub name : List ℕ → Name
name text = record { 0 = text }

-- the name of a class, where the program has one of this name
abbrev pub there : Program → List ℕ → Option Name
there p text = if is_some (find p text) then Some (name text) else None

-- ---- types

-- the class of security contexts has a type of its own, outside of arrays
abbrev pub is_context : Element → Bool
is_context = elim [ elements.Class c ↦ bytes_eq c.0 context | _ ↦ false ]

-- the type of an array of so many dimensions, or of an element alone
abbrev pub type_of : ℕ → Element → VType
type_of depth x = if depth == 0 && is_context x then types.Ctx else in_brackets depth x

abbrev pub class_of : Name → VType
class_of c = type_of 0 (elements.Class c)

-- what the letter of a descriptor stands for; a class has to be there
abbrev pub element_in : Program → FieldType → Option Element
element_in p t = if t.base == byte "L" then option_map elements.Class (there p t.class) else element_of t.base (name t.class)

-- the type that a field descriptor names in a program
unfoldable pub type_in : Program → FieldType → Option VType
type_in p t = option_map (type_of t.depth) (element_in p t)

abbrev pub class_by : Program → List ℕ → Option Descriptor → Option VType
class_by p text (Some (descriptors.Field t)) = if nat_lt 0 t.depth then type_in p t else option_map class_of (there p text)
class_by p text d = option_map class_of (there p text)

-- the type of a class entry's text: an array's descriptor, or the name of a class
unfoldable pub class_type : Program → List ℕ → Option VType
class_type p text = class_by p text (descriptor_of text)

-- an array of what a class entry names has one dimension more, as long as they can be counted
unfoldable pub array_over : VType → Option VType
array_over (types.Object c) = Some (types.Array (record { depth = 1; element = elements.Class c }))
array_over (types.Array a) = if nat_lt (a.depth + 1) (2 ^ 32) then Some (types.Array (record { depth = a.depth + 1; element = a.element })) else None
array_over t = None

-- ---- the descriptors of members

pub data Typed : Type 0 where
  -- it is none, or names what the program hasn't
  Untyped : Typed
  -- of a field
  Held : VType → Typed
  -- of a method: its parameters, the newest first, as operands stand, and what it returns
  Called : List VType → Option VType → Typed

abbrev pub called : Option (List VType) → Option (Option VType) → Typed
called (Some params) (Some ret) = Called (reverse params) ret
called params ret = Untyped

abbrev pub return_in : Program → Option FieldType → Option (Option VType)
return_in p = elim [ None ↦ Some None | Some t ↦ option_map Some (type_in p t) ]

abbrev pub typed_as : Program → Option Descriptor → Typed
typed_as p None = Untyped
typed_as p (Some (descriptors.Field t)) = elim (type_in p t) [ None ↦ Untyped | Some t ↦ Held t ]
typed_as p (Some (descriptors.Method params ret)) = called (each_some (type_in p) params) (return_in p ret)

-- what a descriptor says in a program
unfoldable pub typed : Program → List ℕ → Typed
typed p text = typed_as p (descriptor_of text)
