use Rattle.jserving.proofs.JcellsProofs.ArrayTypeNumbers.{are_rows}
use Rattle.jserving.proofs.jcells.arrays.number_arrays.Goals as goal

pub returns : goal.returns
returns c shapes =
    are_rows shapes _ c.array_number-boolean.ensures c.array_number-char.ensures c.array_number-byte.ensures c.array_number-short.ensures c.array_number-int.ensures c.array_number-long.ensures
