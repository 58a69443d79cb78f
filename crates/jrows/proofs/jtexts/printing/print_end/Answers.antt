use Rattle.jrows.proofs.JtextsProofs.PrintRows.{end_row}
use Rattle.jrows.proofs.jtexts.printing.print_end.Goals as goal

pub returns : goal.returns
returns g c s thread stream = rw c.new.ensures (end_row _ s thread stream)
