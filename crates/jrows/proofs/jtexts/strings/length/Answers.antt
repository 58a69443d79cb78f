use Rattle.jrows.proofs.JtextsProofs.StringRows.{length_none, length_some}
use Rattle.jrows.proofs.jtexts.strings.length.Goals as goal

pub returns-in_default : goal.returns-in_default
returns-in_default g c p shapes things constants = length_none _ c.heap_laws.ensures.each c.args.heap.now c.args.text p shapes things constants c.in_default.ensures

pub returns : goal.returns
returns g c p shapes things constants =
    rw c.length_of.ensures (length_some _ c.heap_laws.ensures.each c.args.heap.now c.args.text p shapes things constants c.in-Some.o c.in-Some.ensures)
