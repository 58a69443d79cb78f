use Rattle.std.proofs.Common.{◌≡◌, [], length}
use Rattle.std.specs.Prelude.{reverse}
use Rattle.jrows.specs.jtexts.HeapBuilders.{AreThere, behind}
use Rattle.jrows.proofs.jtexts.builders.read_pieces.Given as goal

abbrev pub invariant-loop-o : goal.invariant-loop-o
invariant-loop-o l =
    AreThere l.heap (reverse l.pieces.items) × (behind l.heap l.units.items (reverse l.pieces.items) ≡ behind l.heap [] (reverse l.fn.pieces.items))

abbrev pub decreases-loop-o : goal.decreases-loop-o
decreases-loop-o l = length l.pieces.items
