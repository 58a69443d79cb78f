use Rattle.jrows.proofs.JcallsProofs.ExceptionMessages.{full_with, one_with, tells_heap}
use Rattle.jrows.proofs.jcalls.telling.raise_with.Goals as goal

pub returns-in_default-clause-row : goal.returns-in_default-clause-row
returns-in_default-clause-row g c =
    full_with c.args.marks.now (g.H.Handlers.goes c.args.handlers.now) c.args.class c.args.units.now c.args.frames.now c.args.frames.now c.args.heap.now
    c.make_told.new.heap c.in_ok-object.field-0 c.in_default.is c.in_ok-object.ensures.made

pub returns-in_default-clause-heap : goal.returns-in_default-clause-heap
returns-in_default-clause-heap g c =
    tells_heap c.args.class c.args.units.now c.args.heap.now c.make_told.new.heap c.in_ok-object.field-0 c.in_ok-object.ensures.made

pub returns-clause-row : goal.returns-clause-row
returns-clause-row g c =
    one_with c.args.marks.now (g.H.Handlers.goes c.args.handlers.now) c.args.class c.args.units.now c.args.frames.now c.throw_object.new.frames c.args.heap.now
    c.make_told.new.heap c.in_ok-way.way c.in_ok-object.field-0 c.in-Some.object c.in-Some.is c.in_ok-object.ensures.made c.in_ok-way.ensures.row

pub returns-clause-heap : goal.returns-clause-heap
returns-clause-heap g c =
    tells_heap c.args.class c.args.units.now c.args.heap.now c.make_told.new.heap c.in_ok-object.field-0 c.in_ok-object.ensures.made
