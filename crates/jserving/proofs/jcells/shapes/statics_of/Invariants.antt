use Rattle.std.proofs.Common.{◌≡◌, map, take}
use Rattle.jserving.proofs.JcellsProofs.ObjectCells.{plain_of}
use Rattle.jserving.proofs.jcells.shapes.statics_of.Given as goal

abbrev pub invariant-loop-row : goal.invariant-loop-row
invariant-loop-row l = l.cells ≡ map plain_of (take l.row-index l.rows)
