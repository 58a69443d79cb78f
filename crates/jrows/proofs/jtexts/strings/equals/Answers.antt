use Rattle.jrows.proofs.JtextsProofs.StringRows.{equals_none, equals_other, equals_some}
use Rattle.jrows.proofs.jtexts.strings.equals.Goals as goal

pub returns-in_default : goal.returns-in_default
returns-in_default g c p shapes things constants = equals_none _ c.heap_laws.ensures.each c.args.heap.now c.args.text p shapes things constants c.args.other c.in_default.ensures

pub returns-in_default-text_of : goal.returns-in_default-text_of
returns-in_default-text_of g c p shapes things constants =
    rw c.flag.ensures (equals_other _ c.heap_laws.ensures.each c.args.heap.now c.args.text p shapes things constants c.args.other c.in-Some.o c.in-Some.ensures c.in_default-text_of.ensures)

pub returns : goal.returns
returns g c p shapes things constants =
    rw (c.flag-2.ensures, c.are_same.ensures)
    (equals_some _ c.heap_laws.ensures.each c.args.heap.now c.args.text p shapes things constants c.args.other c.in-Some.o c.in-Some-text_of.n c.in-Some.ensures c.in-Some-text_of.ensures)
