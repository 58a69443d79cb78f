-- The heap's numbers for types of arrays. Those from 2 ^ 31 on say by their low three bits which numbers the arrays hold; those below are rows
-- of a table of types.
use Rattle.std.specs.Prelude.{◌≡◌, ℕ, zero, suc, ◌+◌, ◌%◌, ◌^◌, Option, Some, None, nat_lt, if◌then◌else◌}
use Rattle.jparts.specs.declared.jcode.names.ArrayType.{ArrayType}
use Rattle.jparts.specs.declared.jcode.names.ArrayType.TheVariants as numbers
use Rattle.jresolution.specs.declared.juses.types.ArrayRef.{ArrayRef}
use Rattle.jresolution.specs.declared.juses.types.ElementRef.{ElementRef}
use Rattle.jresolution.specs.declared.juses.types.ElementRef.TheVariants as elements

-- so many numbers are for rows
abbrev pub rows_end : ℕ
rows_end = 2 ^ 31

-- the heap's number for the arrays of such numbers
abbrev pub array_number : ArrayType → ℕ
array_number numbers.Boolean = rows_end
array_number numbers.Char = rows_end + 1
array_number numbers.Byte = rows_end + 2
array_number numbers.Short = rows_end + 3
array_number numbers.Int = rows_end + 4
array_number numbers.Long = rows_end + 5

-- what the low three bits say
abbrev pub numbers_by : ℕ → ArrayType
numbers_by zero = numbers.Boolean
numbers_by (suc zero) = numbers.Char
numbers_by (suc (suc zero)) = numbers.Byte
numbers_by (suc (suc (suc zero))) = numbers.Short
numbers_by (suc (suc (suc (suc zero)))) = numbers.Int
numbers_by _ = numbers.Long

-- the numbers that the arrays of a number of the heap hold, where that is no row
unfoldable pub numbers_at : ℕ → Option ArrayType
numbers_at n = if nat_lt n rows_end then None else Some (numbers_by (n % 8))

abbrev pub element_of : ArrayType → ElementRef
element_of numbers.Boolean = elements.Boolean
element_of numbers.Char = elements.Char
element_of numbers.Byte = elements.Byte
element_of numbers.Short = elements.Short
element_of numbers.Int = elements.Int
element_of numbers.Long = elements.Long

-- the type of the arrays of such elements
abbrev pub array_of : ElementRef → ArrayRef
array_of element = record { depth = 1; element = element }

-- The number for the arrays of some numbers says them.
abbrev pub SaysNumbers : Type 0
SaysNumbers = (kind : ArrayType) → numbers_at (array_number kind) ≡ Some kind
