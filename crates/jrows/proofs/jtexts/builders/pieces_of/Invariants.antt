use Rattle.std.specs.Prelude.{reverse}
use Rattle.jrows.proofs.JtextsProofs.BuilderPieces.{Gathers, steps_left}
use Rattle.jrows.proofs.jtexts.builders.pieces_of.Given as goal

abbrev pub invariant-loop-next : goal.invariant-loop-next
invariant-loop-next l = Gathers l.heap l.fn.last l.next (reverse l.pieces.items)

abbrev pub decreases-loop-next : goal.decreases-loop-next
decreases-loop-next l = steps_left l.next
