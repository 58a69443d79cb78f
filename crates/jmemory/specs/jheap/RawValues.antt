-- Values as numbers of 64 bits, as the cells of the heap hold them.
use Rattle.std.specs.Prelude.{◌≡◌, FitsSigned, ℕ, ◌<◌, ◌^◌, ◌%◌}
use Rattle.std.specs.Int.{w32, w64, cast_signed, cast_unsigned}
use Rattle.jvalues.specs.declared.jops.value.Value.{Value}
use Rattle.jvalues.specs.declared.jops.value.Value.TheVariants as values
use Rattle.jmemory.specs.declared.jheap.cell.CellType.{CellType}
use Rattle.jmemory.specs.declared.jheap.cell.CellType.TheVariants.{Int, Long, Ref, Ctx}

-- the number that a cell holds for a value: of an int and a long the one that has the same bits
abbrev pub raw : Value ℕ → ℕ
raw (values.Int x) = cast_unsigned w32 x
raw (values.Long x) = cast_unsigned w64 x
raw (values.Ref n) = n
raw (values.Ctx n) = n

-- the value of a type that a cell with this number holds; 0 is the int and the long 0, and null
abbrev pub of_raw : CellType → ℕ → Value ℕ
of_raw Int n = values.Int (cast_signed w32 (n % 2 ^ 32))
of_raw Long n = values.Long (cast_signed w64 n)
of_raw Ref n = values.Ref (n % 2 ^ 32)
of_raw Ctx n = values.Ctx n

abbrev pub type_of : Value ℕ → CellType
type_of (values.Int x) = Int
type_of (values.Long x) = Long
type_of (values.Ref n) = Ref
type_of (values.Ctx n) = Ctx

-- the value is one of the machine's
abbrev pub IsValue : Value ℕ → Type 0
IsValue (values.Int x) = FitsSigned w32 x
IsValue (values.Long x) = FitsSigned w64 x
IsValue (values.Ref n) = n < 2 ^ 32
IsValue (values.Ctx n) = n < 2 ^ 64

-- A cell that holds a value gives it back as its type.
abbrev pub GivesBack : Type 0
GivesBack = (v : Value ℕ) → IsValue v → of_raw (type_of v) (raw v) ≡ v
