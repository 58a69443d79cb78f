use Rattle.jrows.proofs.JtextsProofs.BuilderAppends.{cells_stay}
use Rattle.jrows.proofs.jtexts.builders.name_piece.Goals as goal

pub set_cell-requires : goal.set_cell-requires
set_cell-requires c = rw c.set_before.ensures (cells_stay c.args.heap.now c.args.o c.args.b c.args.last c.requires.cell)
