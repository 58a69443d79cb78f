-- Names by which proofs and the contracts of inner functions call what the definitions say in place. What `javasec` and `dispatch` promise
-- reaches none of them.
use Rattle.std.specs.Prelude.{ℕ, Option, List, option_map, if◌then◌else◌, Some, None, option_and_then, ◌==◌}
use Rattle.jtypes.specs.declared.vtype.VType.{VType}
use Rattle.jparts.specs.declared.jcode.names.CastOp.{CastOp}
use Rattle.jresolution.specs.jprogram.ProgramClasses.{Program}
use Rattle.jparts.specs.declared.jpool.entry.Entry.{Entry}
use Rattle.jparts.specs.declared.jcode.op_form.ArrayForm.{ArrayForm}
use Rattle.jparts.specs.declared.jcode.names.FieldOp.{FieldOp}
use Rattle.jparts.specs.declared.jcode.names.CallOp.{CallOp}
use Rattle.jparts.specs.declared.jpool.descriptor.Descriptor.{Descriptor}
use Rattle.jtypes.specs.declared.vtype.Element.{Element}
use Rattle.jtypes.specs.DescriptorElements.{element_of}
use Rattle.jtypes.specs.declared.vtype.VType.TheVariants as types
use Rattle.jparts.specs.declared.jcode.op_form.ArrayForm.TheVariants as arrays
use Rattle.jparts.specs.declared.jpool.descriptor.Descriptor.TheVariants as descriptors
use Rattle.jresolution.specs.juses.DescriptorTypes.{Typed, Held, class_type, array_over, Untyped, name}
use Rattle.jresolution.specs.juses.IndexedInstructions.{Instruction, Used, Array}
use Rattle.jresolution.specs.juses.InstructionMeanings.{array_meant, EntryMeaning, AClass, Meaning, Cast, AField, Field, AMethod, Call, how_of, MakeArray, AConstant, Int as MeaningsInt, Push, Text, Long, Make}
use Rattle.jresolution.specs.declared.juses.meaning.InvokeKind.TheVariants as how

-- ---- of jlayout.FieldLayout

abbrev pub held_type : Typed → VType
held_type = elim [ Held t ↦ t | _ ↦ types.Top ]

-- ---- of juses.IndexedInstructions

abbrev pub array : Program → List Entry → ArrayForm → Option Instruction
array p pool = elim [ arrays.NewRef i ↦ option_map Used (array_meant p pool i) | f ↦ Some (Array f) ]

-- ---- of juses.InstructionMeanings

abbrev pub as_class : EntryMeaning → Option VType
as_class = elim [ AClass t ↦ Some t | _ ↦ None ]

abbrev pub cast_by : CastOp → EntryMeaning → Option Meaning
cast_by op = elim [ AClass t ↦ Some (Cast op t) | _ ↦ None ]

abbrev pub class_meant : Program → Option (List ℕ) → Option EntryMeaning
class_meant p text = option_map AClass (option_and_then (class_type p) text)

abbrev pub field_used : FieldOp → EntryMeaning → Option Meaning
field_used op = elim [ AField f ↦ Some (Field op f) | _ ↦ None ]

abbrev pub called_by : CallOp → EntryMeaning → Option Meaning
called_by op = elim [ AMethod is_init c ↦ Some (Call (how_of op is_init) c) | _ ↦ None ]

abbrev pub called_by_interface : EntryMeaning → Option Meaning
called_by_interface = elim [ AMethod is_init c ↦ Some (Call how.Interface c) | _ ↦ None ]

abbrev pub array_made : EntryMeaning → Option Meaning
array_made = elim [ AClass t ↦ option_map MakeArray (array_over t) | _ ↦ None ]

-- ---- of juses.DescriptorTypes

abbrev pub held : Option VType → Typed
held = elim [ None ↦ Untyped | Some t ↦ Held t ]

-- ---- of juses.InstructionMeanings

-- an int or a string
abbrev pub short_constant : EntryMeaning → Option Meaning
short_constant (AConstant (MeaningsInt n)) = Some (Push (MeaningsInt n))
short_constant (AConstant (Text t)) = Some (Push (Text t))
short_constant _ = None

abbrev pub long_constant : EntryMeaning → Option Meaning
long_constant (AConstant (Long n)) = Some (Push (Long n))
long_constant _ = None

-- no object is made of an array's class
abbrev pub made : EntryMeaning → Option Meaning
made (AClass (types.Object c)) = Some (Make c)
made _ = None

-- ---- of jlayout.FieldLayout

abbrev pub element_in : Option Descriptor → Option Element
element_in (Some (descriptors.Field t)) = if t.depth == 0 then element_of t.base (name t.class) else None
element_in d = None
