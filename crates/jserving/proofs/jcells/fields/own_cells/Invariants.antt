use Rattle.std.proofs.Common.{◌≡◌, take}
use Rattle.jserving.proofs.JcellsProofs.ObjectCells.{own}
use Rattle.jserving.proofs.jcells.fields.own_cells.Given as goal

abbrev pub invariant-loop-field : goal.invariant-loop-field
invariant-loop-field l = l.cells ≡ own l.p l.part (take l.field-index l.part.class.fields)
