use Rattle.jstepping.proofs.JrefsProofs.OperandRows.{no_get, no_put, out_got, out_put}
use Rattle.jstepping.proofs.jrefs.objects.system_out.Goals as goal

pub returns-in-GetStatic-clause-row : goal.returns-in-GetStatic-clause-row
returns-in-GetStatic-clause-row g c =
    out_got c.args.x.now c.args.frames.now.newest c.get_out.new.frames.newest c.args.heap.now c.args.op c.in-GetStatic.is c.get_out.result c.get_out.ensures.row

pub returns-in-PutStatic-clause-row : goal.returns-in-PutStatic-clause-row
returns-in-PutStatic-clause-row g c counts f member n =
    out_put c.args.x.now counts c.args.frames.now.newest c.args.frames.now.newest c.args.heap.now c.args.heap.now c.args.op f member n c.in-PutStatic.is

pub returns-in-GetField-clause-row : goal.returns-in-GetField-clause-row
returns-in-GetField-clause-row g c counts f member n =
    no_get c.args.x.now counts c.args.frames.now.newest c.args.frames.now.newest c.args.heap.now c.args.heap.now c.args.op f member n c.in-GetField.is

pub returns-in-PutField-clause-row : goal.returns-in-PutField-clause-row
returns-in-PutField-clause-row g c counts f member n =
    no_put c.args.x.now counts c.args.frames.now.newest c.args.frames.now.newest c.args.heap.now c.args.heap.now c.args.op f member n c.in-PutField.is
