-- The heap's numbers for types of arrays that the machine makes itself, or that `newarray` makes.
use Rattle.std.specs.Prelude.{◌≡◌, ℕ, List, Some, slice_get}
use Rattle.jparts.specs.declared.jcode.names.ArrayType.{ArrayType}
use Rattle.jparts.specs.declared.jcode.names.ArrayType.TheVariants as numbers
use Rattle.jlib.specs.declared.classes.LibClass.TheVariants as lib
use Rattle.jresolution.specs.declared.jprogram.part.ClassRef.TheVariants as refs
use Rattle.jresolution.specs.declared.juses.types.ArrayRef.{ArrayRef}
use Rattle.jresolution.specs.declared.juses.types.ElementRef.{ElementRef}
use Rattle.jresolution.specs.declared.juses.types.ElementRef.TheVariants as elements
use Rattle.jruntime.specs.declared.jstate.shapes.Shapes.{Shapes}
use Rattle.jruntime.specs.jstate.ArrayNumbers.{array_of, element_of}
use Rattle.jruntime.specs.jstate.HeapMeanings.{array_at}
use Rattle.jserving.specs.declared.jcells.arrays.NumberArrays.{NumberArrays}

-- the heap's number for the arrays of such numbers
abbrev pub array_number : NumberArrays → ArrayType → ℕ
array_number rows numbers.Boolean = rows.boolean
array_number rows numbers.Char = rows.char
array_number rows numbers.Byte = rows.byte
array_number rows numbers.Short = rows.short
array_number rows numbers.Int = rows.int
array_number rows numbers.Long = rows.long

-- The type of such arrays has this number.
abbrev pub HasArray : List ArrayRef → ElementRef → ℕ → Type 0
HasArray arrays element n = slice_get arrays n ≡ Some (array_of element)

-- These numbers are those of the arrays of numbers.
abbrev pub AreRows : Shapes → NumberArrays → Type 0
AreRows shapes rows = (kind : ArrayType) → array_at shapes (array_number rows kind) ≡ array_of (element_of kind)

-- This number is that of the arrays of strings.
abbrev pub IsStrings : Shapes → ℕ → Type 0
IsStrings shapes n = array_at shapes n ≡ array_of (elements.Class (refs.Lib lib.String))
