-- What arrays hold, by the numbers of their types, and how their items are read and written.
use Rattle.std.specs.Prelude.{◌≡◌, ◌<◌, ◌+◌, ℕ, ℤ, drop, length, Option, Some, None, option_and_then, option_map, slice_get, nat_lt, if◌then◌else◌}
use Rattle.jparts.specs.declared.jcode.names.Element.{Element}
use Rattle.jparts.specs.declared.jcode.names.Element.TheVariants as items
use Rattle.jmemory.specs.declared.jheap.cell.CellType.{CellType}
use Rattle.jmemory.specs.declared.jheap.cell.CellType.TheVariants as cells
use Rattle.jmemory.specs.jheap.Heaps.{Heaped, cells_at, with_cell}
use Rattle.jmemory.specs.jheap.RawValues.{of_raw, raw, type_of}
use Rattle.jlib.specs.declared.classes.LibClass.{LibClass}
use Rattle.jlib.specs.declared.classes.LibClass.TheVariants as lib
use Rattle.jlib.specs.declared.classes.Thrown.TheVariants as thrown
use Rattle.jvalues.specs.declared.jnames.kinds.Kind.{Kind}
use Rattle.jvalues.specs.jops.ValueKinds.{is_of}
use Rattle.jvalues.specs.declared.jops.value.Value.{Value}
use Rattle.jtyping.specs.jrule.StackEffects.{same_items}
use Rattle.jsemantics.specs.jmachine.ArrayInstructions.{within}
use Rattle.jsemantics.specs.jmachine.FrameOperations.{standing}
use Rattle.jsemantics.specs.jmachine.Narrowing.{place}
use Rattle.jresolution.specs.declared.juses.types.ArrayRef.{ArrayRef}
use Rattle.jresolution.specs.declared.juses.types.ElementRef.{ElementRef}
use Rattle.jresolution.specs.declared.juses.types.ElementRef.TheVariants as elements
use Rattle.jruntime.specs.declared.jstate.shapes.Shapes.{Shapes}
use Rattle.jruntime.specs.jstate.FrameLists.{Framed, with_newest}
use Rattle.jruntime.specs.jstate.HeapMeanings.{array_at}
use Rattle.jrows.specs.declared.jacts.arrays.ArrayOperand.{ArrayOperand}
use Rattle.jrows.specs.declared.jacts.arrays.ArrayOperand.TheVariants as found
use Rattle.jrows.specs.declared.jacts.way.Way.{Way}
use Rattle.jrows.specs.declared.jacts.way.Way.TheVariants as ways

-- what an array holds, as loads and stores tell it apart; booleans are held as bytes
abbrev pub held_as : ElementRef → Element
held_as elements.Boolean = items.Byte
held_as elements.Char = items.Char
held_as elements.Byte = items.Byte
held_as elements.Short = items.Short
held_as elements.Int = items.Int
held_as elements.Long = items.Long
held_as (elements.Class c) = items.Ref

-- an array of more dimensions than one holds arrays
abbrev pub items_by : ArrayRef → Element
items_by a = if nat_lt 1 a.depth then items.Ref else held_as a.element

-- the type of the cells of arrays with such items
abbrev pub cell_for : Element → CellType
cell_for items.Long = cells.Long
cell_for items.Ref = cells.Ref
cell_for e = cells.Int

-- an operand that is wanted to be an array with such items
abbrev pub with_items : Shapes → Element → ArrayOperand → ArrayOperand
with_items shapes e (found.Array o a) = if same_items e (items_by (array_at shapes a)) then found.Array o a else found.Other
with_items shapes e x = x

-- the value of the cell of an int's place, where it is there
abbrev pub item_in : Heaped → CellType → ℕ → ℤ → Option (Value ℕ)
item_in h of o i = option_and_then (λ k. option_map (of_raw of) (slice_get (cells_at h o) k)) (within (length (cells_at h o)) (place i))

-- a value of a kind
abbrev pub kept_if : Kind → Option (Value ℕ) → Option (Value ℕ)
kept_if kind None = None
kept_if kind (Some v) = if is_of kind v then Some v else None

abbrev pub outside : LibClass
outside = lib.Thrown thrown.ArrayIndexOutOfBoundsException

-- The item of a place has this value, and the three operands are gone; where there is no such place, nothing has changed.
abbrev pub HasPut : {E : Type 0} → ℕ → Value ℕ → Framed E → Heaped → Way → Framed E → Heaped → Option ℕ → Type 0
HasPut o v s h way t g None = (way ≡ ways.Raises outside) × (t ≡ s) × (g ≡ h)
HasPut o v s h way t g (Some k) =
    (way ≡ ways.Went) × (k < length (cells_at h o)) × (of_raw (type_of v) (raw v) ≡ v) × (g ≡ with_cell h o k (raw v))
    × (t ≡ with_newest (standing s.newest (s.newest.place + 1) (drop 3 s.newest.operands)) s)
