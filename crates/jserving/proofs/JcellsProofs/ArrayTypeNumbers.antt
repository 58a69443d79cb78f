-- The heap's numbers for types of arrays.
use Rattle.std.proofs.Common.{◌≡◌, ◌∙◌, ap}
use Rattle.jparts.specs.declared.jcode.names.ArrayType.TheVariants as numbers
use Rattle.jruntime.specs.declared.jstate.shapes.Shapes.{Shapes}
use Rattle.jruntime.specs.jstate.ArrayNumbers as heaps
use Rattle.jruntime.specs.jstate.HeapMeanings.{array_at}
use Rattle.jruntime.proofs.JstateProofs.ArrayTypeNumbers.{typed_numbers}
use Rattle.jserving.specs.declared.jcells.arrays.NumberArrays.{NumberArrays}
use Rattle.jserving.specs.jcells.ArrayTypeNumbers.{AreRows}

-- those that say what their arrays hold
pub are_rows : (shapes : Shapes) (rows : NumberArrays)
    → rows.boolean ≡ heaps.array_number numbers.Boolean → rows.char ≡ heaps.array_number numbers.Char → rows.byte ≡ heaps.array_number numbers.Byte
    → rows.short ≡ heaps.array_number numbers.Short → rows.int ≡ heaps.array_number numbers.Int → rows.long ≡ heaps.array_number numbers.Long → AreRows shapes rows
are_rows shapes rows boolean char byte short int long numbers.Boolean = ap (array_at shapes) boolean ∙ typed_numbers shapes numbers.Boolean
are_rows shapes rows boolean char byte short int long numbers.Char = ap (array_at shapes) char ∙ typed_numbers shapes numbers.Char
are_rows shapes rows boolean char byte short int long numbers.Byte = ap (array_at shapes) byte ∙ typed_numbers shapes numbers.Byte
are_rows shapes rows boolean char byte short int long numbers.Short = ap (array_at shapes) short ∙ typed_numbers shapes numbers.Short
are_rows shapes rows boolean char byte short int long numbers.Int = ap (array_at shapes) int ∙ typed_numbers shapes numbers.Int
are_rows shapes rows boolean char byte short int long numbers.Long = ap (array_at shapes) long ∙ typed_numbers shapes numbers.Long
