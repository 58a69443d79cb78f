-- The rule of instructions with arrays (JVMS 4.10.1.9). Null stands for an array in each of them.
use Rattle.std.specs.Prelude.{ℕ, ◌-◌, List, [], ◌∷◌, map, Option, None, option_and_then}
use Rattle.jvalues.specs.declared.jnames.kinds.Kind.TheVariants as kinds
use Rattle.jparts.specs.declared.jcode.names.ArrayType as codes_of
use Rattle.jparts.specs.declared.jcode.names.ArrayType.TheVariants as numbers
use Rattle.jparts.specs.declared.jcode.names.Element as items
use Rattle.jparts.specs.declared.jcode.names.Element.TheVariants as item
use Rattle.jparts.specs.declared.jcode.op_form.ArrayForm.{ArrayForm}
use Rattle.jparts.specs.declared.jcode.op_form.ArrayForm.TheVariants as arrays
use Rattle.jparts.specs.jcode.InstructionForms.{array_effect, listed}
use Rattle.jtypes.specs.declared.vtype.Element.{Element}
use Rattle.jtypes.specs.declared.vtype.Element.TheVariants as elements
use Rattle.jtypes.specs.declared.vtype.ArrayType.{ArrayType}
use Rattle.jtypes.specs.declared.vtype.VType.{VType}
use Rattle.jtypes.specs.declared.vtype.VType.TheVariants.{Top, Int, Long, Null, Array}
use Rattle.jtypes.specs.DescriptorElements.{in_brackets}
use Rattle.jtypes.specs.TypeFrames.{Frame}
use Rattle.jtypes.specs.ClassTrees.{Tree}
use Rattle.jtyping.specs.jrule.StackEffects.{Holds, Of, Want, by_effect, gives}
use Rattle.jtyping.specs.jrule.StackOperands.{exchanged, pushed, taken}

-- ---- what is taken

abbrev pub operands : items.Element → ArrayForm → List Want
operands e f = map (elim [ kinds.Array ↦ Holds e | k ↦ Of k ]) (listed (array_effect f).takes)

-- ---- what is given

-- what an array holds: an array of one dimension less, or what stands behind them
abbrev pub component : ArrayType → VType
component a = in_brackets (a.depth - 1) a.element

-- what is loaded from an array
abbrev pub loaded : items.Element → VType → VType
loaded item.Long a = Long
loaded item.Ref Null = Null
loaded item.Ref (Array a) = component a
loaded item.Ref a = Top
loaded e a = Int

-- the array lies below the index
abbrev pub loaded_on : items.Element → List VType → VType
loaded_on e (i ∷ a ∷ stack) = loaded e a
loaded_on e stack = Top

abbrev pub of_numbers : codes_of.ArrayType → Element
of_numbers numbers.Boolean = elements.Boolean
of_numbers numbers.Char = elements.Char
of_numbers numbers.Byte = elements.Byte
of_numbers numbers.Short = elements.Short
of_numbers numbers.Int = elements.Int
of_numbers numbers.Long = elements.Long

abbrev pub row : Element → VType
row e = Array (record { depth = 1; element = e })

-- ---- all

abbrev pub load : Tree → ℕ → items.Element → Frame → Option Frame
load t most e f = option_and_then (pushed most (loaded_on e f.stack)) (taken t (operands e (arrays.Load e)) f)

-- an array of references is made by an entry of the pool
abbrev pub array : Tree → ℕ → ArrayForm → Frame → Option Frame
array t most (arrays.New kind) f = exchanged t most (gives (Of kinds.Int ∷ []) (row (of_numbers kind))) f
array t most (arrays.NewRef n) f = None
array t most (arrays.Load e) f = load t most e f
array t most (arrays.Store e) f = taken t (operands e (arrays.Store e)) f
array t most arrays.Length f = exchanged t most (by_effect (array_effect arrays.Length)) f
