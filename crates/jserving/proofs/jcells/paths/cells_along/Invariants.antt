use Rattle.std.proofs.Common.{◌≡◌, ◌++◌, length}
use Rattle.jserving.proofs.JcellsProofs.ObjectCells.{along}
use Rattle.jserving.proofs.jcells.paths.cells_along.Given as goal

abbrev pub invariant-loop-at : goal.invariant-loop-at
invariant-loop-at l = along l.p l.fn.classes.items ≡ l.cells ++ along l.p l.path.items

abbrev pub decreases-loop-at : goal.decreases-loop-at
decreases-loop-at l = length l.path.items
