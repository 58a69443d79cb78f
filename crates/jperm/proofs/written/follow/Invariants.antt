use Rattle.std.proofs.Common.{◌≡◌, fold}
use Rattle.std.specs.Option.{option_copied}
use Rattle.jperm.specs.PathCoverage.{slash}
use Rattle.jperm.specs.TextPieces.{pieces, pieces_if}
use Rattle.jperm.specs.WrittenPaths.{next}
use Rattle.jperm.proofs.Walks.{left_of}
use Rattle.jperm.proofs.written.follow.Given as goal

abbrev pub invariant-loop-left : goal.invariant-loop-left
invariant-loop-left l =
    fold next l.names.items (pieces_if slash (option_copied l.left)) ≡ fold next l.fn.names.items (pieces slash l.fn.path)

abbrev pub decreases-loop-left : goal.decreases-loop-left
decreases-loop-left l = left_of (option_copied l.left)
