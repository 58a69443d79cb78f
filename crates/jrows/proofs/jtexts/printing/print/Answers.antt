use Rattle.jrows.proofs.JtextsProofs.PrintRows.{print_shown}
use Rattle.jrows.proofs.jtexts.printing.print.Goals as goal

pub returns : goal.returns
returns g c = print_shown _ c.heap_laws.ensures.each c.args.heap.now c.args.piece c.args.value c.in_ok-text.text c.in_ok-text.ensures
