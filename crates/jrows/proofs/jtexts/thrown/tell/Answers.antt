use Rattle.std.proofs.Common.{arith}
use Rattle.jrows.proofs.JtextsProofs.BuilderAppends.{written_celled}
use Rattle.jrows.proofs.JtextsProofs.MessageRows.{cell_told, tell_none, tell_some, tell_stays}
use Rattle.jrows.proofs.jtexts.thrown.tell.Goals as goal

pub put_message-requires : goal.put_message-requires
put_message-requires g c = cell_told c.args.shapes.now c.args.heap.now c.args.o c.in-Some.i c.requires.cell c.in-Some.ensures

pub returns-in-None-clause-row : goal.returns-in-None-clause-row
returns-in-None-clause-row g c =
    tell_none _ c.heap_laws.ensures.each c.args.shapes.now c.args.heap.now c.args.o c.args.m c.requires.cell c.in-None.ensures

pub returns-in-Some-clause-row : goal.returns-in-Some-clause-row
returns-in-Some-clause-row g c =
    tell_some _ c.heap_laws.ensures.each c.heap_laws.ensures.writes c.args.shapes.now c.args.heap.now c.put_message.new.heap c.args.o c.in-Some.i c.args.m
    c.in-Some.ensures
    (cell_told c.args.shapes.now c.args.heap.now c.args.o c.in-Some.i c.requires.cell c.in-Some.ensures) (omega arith)
    c.put_message.ensures

pub returns-in-Some-clause-built : goal.returns-in-Some-clause-built
returns-in-Some-clause-built g c =
    tell_stays c.built_laws.ensures.written c.args.shapes.now c.args.heap.now c.put_message.new.heap c.args.o c.in-Some.i c.args.m c.requires.built
    c.in-Some.ensures
    (cell_told c.args.shapes.now c.args.heap.now c.args.o c.in-Some.i c.requires.cell c.in-Some.ensures) (omega arith)
    c.put_message.ensures

pub returns-in-Some-clause-celled : goal.returns-in-Some-clause-celled
returns-in-Some-clause-celled g c =
    written_celled c.celled_laws.ensures.written c.args.heap.now c.put_message.new.heap c.args.o c.in-Some.i c.args.m c.put_message.ensures
