use Rattle.std.proofs.Common.{◌∙◌, length, sym}
use Rattle.jstepping.proofs.JstepProofs.RowCompletion.{object_thrown, stood}
use Rattle.jstepping.proofs.jstep.raising.settle_thrown.Goals as goal

pub returns-clause-row : goal.returns-clause-row
returns-clause-row g c =
    object_thrown c.args.marks.now c.args.known.now c.args.object c.args.frames.now c.throw_object.new.frames c.args.heap.now c.heap_laws.ensures.each
    c.told_law.ensures c.class_laws.ensures.type_ c.in-Some.kind c.in-Some-number_of.number c.class_numbered-class.result c.in_ok-done.done c.stepped_of.result
    (sym c.in-Some.is ∙ c.found.ensures) (sym c.in-Some-number_of.is ∙ c.number_of.ensures) c.class_numbered-class.ensures c.stepped_of.ensures c.in_ok-done.ensures.row

pub returns-clause-stand : goal.returns-clause-stand
returns-clause-stand g c =
    stood (length c.args.marks.now) c.in_ok-done.done c.stepped_of.result c.class_numbered-class.result c.args.frames.now c.throw_object.new.frames
    c.stepped_of.ensures c.in_ok-done.ensures.stand c.requires.stand
