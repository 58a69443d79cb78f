use Rattle.std.proofs.Common.{◌≡◌, ◌++◌}
use Rattle.jresolution.proofs.JlayoutProofs.Walks.{rest_of}
use Rattle.jserving.specs.jcells.UserClassCells.{cells_at, cells_from}
use Rattle.jserving.proofs.JcellsProofs.ObjectCells.{along}
use Rattle.jserving.proofs.jcells.paths.path_from.Given as goal

abbrev pub invariant-loop-next : goal.invariant-loop-next
invariant-loop-next l = cells_at l.p l.fn.class ≡ cells_from l.p l.next ++ along l.p l.path.items

abbrev pub decreases-loop-next : goal.decreases-loop-next
decreases-loop-next l = rest_of l.p l.next
