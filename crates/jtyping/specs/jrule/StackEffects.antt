-- What instructions take from the stack and give to it (JVMS 6.5), as tests on verification types.
use Rattle.std.specs.Prelude.{Bool, true, false, List, Option, Some, None, map, nat_lt, option_and_then, if◌then◌else◌}
use Rattle.jvalues.specs.declared.jnames.kinds.Kind.{Kind}
use Rattle.jvalues.specs.declared.jnames.kinds.Kind.TheVariants as kinds
use Rattle.jvalues.specs.declared.jnames.kinds.Kinds.{Kinds}
use Rattle.jvalues.specs.declared.jnames.kinds.Effect.{Effect}
use Rattle.jparts.specs.declared.jcode.names.Element as items
use Rattle.jparts.specs.declared.jcode.names.Element.TheVariants as item
use Rattle.jparts.specs.jcode.InstructionForms.{listed}
use Rattle.jtypes.specs.declared.vtype.Name.{Name}
use Rattle.jtypes.specs.declared.vtype.Element.{Element}
use Rattle.jtypes.specs.declared.vtype.Element.TheVariants as elements
use Rattle.jtypes.specs.declared.vtype.ArrayType.{ArrayType}
use Rattle.jtypes.specs.declared.vtype.VType.{VType}
use Rattle.jtypes.specs.declared.vtype.VType.TheVariants.{Int, Long, Null, UninitThis, Uninit, Object, Array, Ctx}
use Rattle.jtypes.specs.Assignability.{fits}
use Rattle.jtypes.specs.TypeFrames.{is_long}
use Rattle.jtypes.specs.ClassTrees.{Tree}

-- ---- kinds of operands

abbrev pub is_int : VType → Bool
is_int = elim [ Int ↦ true | _ ↦ false ]

abbrev pub is_null : VType → Bool
is_null = elim [ Null ↦ true | _ ↦ false ]

-- a reference, to an array too
abbrev pub is_ref : VType → Bool
is_ref = elim [ Null ↦ true | Object c ↦ true | Array a ↦ true | _ ↦ false ]

-- null stands for an array too
abbrev pub is_array : VType → Bool
is_array = elim [ Null ↦ true | Array a ↦ true | _ ↦ false ]

-- a reference, an object before its `<init>`, or a security context
abbrev pub is_held : VType → Bool
is_held = elim [ UninitThis ↦ true | Uninit o ↦ true | Ctx ↦ true | a ↦ is_ref a ]

-- a type is of a kind
abbrev pub is_of : Kind → VType → Bool
is_of = elim [ kinds.Int ↦ is_int | kinds.Long ↦ is_long | kinds.Null ↦ is_null | kinds.Ref ↦ is_ref | kinds.Array ↦ is_array | kinds.Held ↦ is_held ]

-- the type of what is of a kind, where the kind says it
abbrev pub typed : Kind → Option VType
typed = elim [ kinds.Int ↦ Some Int | kinds.Long ↦ Some Long | kinds.Null ↦ Some Null | _ ↦ None ]

-- ---- items of arrays

-- what an array holds, as loads and stores tell it apart; booleans are held as bytes
abbrev pub held_as : Element → items.Element
held_as elements.Boolean = item.Byte
held_as elements.Char = item.Char
held_as elements.Byte = item.Byte
held_as elements.Short = item.Short
held_as elements.Int = item.Int
held_as elements.Long = item.Long
held_as (elements.Class c) = item.Ref

-- an array of more dimensions than one holds arrays
abbrev pub items_of : ArrayType → items.Element
items_of a = if nat_lt 1 a.depth then item.Ref else held_as a.element

abbrev pub same_items : items.Element → items.Element → Bool
same_items item.Int item.Int = true
same_items item.Long item.Long = true
same_items item.Ref item.Ref = true
same_items item.Byte item.Byte = true
same_items item.Char item.Char = true
same_items item.Short item.Short = true
same_items x y = false

-- an array with such items; null stands for one
abbrev pub holds : items.Element → VType → Bool
holds e = elim [ Null ↦ true | Array a ↦ same_items e (items_of a) | _ ↦ false ]

-- ---- what is wanted

-- what is wanted of an operand
pub data Want : Type 0 where
  -- it is of a kind
  Of : Kind → Want
  -- it fits a type
  Fits : VType → Want
  -- it is an array with such items
  Holds : items.Element → Want
  -- it is of the first class, or `this` of the second one, on which no other `<init>` was called yet
  OrThis : Name → Name → Want

abbrev pub is_uninit_this : VType → Bool
is_uninit_this = elim [ UninitThis ↦ true | _ ↦ false ]

-- a type meets it
abbrev pub meets : Tree → Want → VType → Bool
meets t (Of k) a = is_of k a
meets t (Fits b) a = fits t a b
meets t (Holds e) a = holds e a
meets t (OrThis c this) a = if is_uninit_this a then true else fits t a (Object c)

-- what is taken from the stack, the newest first, and what is given to it
pub record Exchange : Type 0 where
  pub takes : List Want
  pub gives : Option VType

abbrev pub takes : List Want → Exchange
takes ws = record { takes = ws; gives = None }

abbrev pub gives : List Want → VType → Exchange
gives ws a = record { takes = ws; gives = Some a }

-- operands of these kinds
abbrev pub of_kinds : Kinds → List Want
of_kinds ks = map Of (listed ks)

abbrev pub by_effect : Effect → Exchange
by_effect e = record { takes = of_kinds e.takes; gives = option_and_then typed e.gives }
