use Rattle.jrows.proofs.JtextsProofs.ThrownRows.{message_some, message_stuck}
use Rattle.jrows.proofs.jtexts.thrown.message.Goals as goal

pub returns-in-None : goal.returns-in-None
returns-in-None g c p things constants =
    message_stuck _ c.heap_laws.ensures.each c.args.shapes.now c.args.heap.now p things constants c.args.thrown c.in-None.ensures

pub returns-in-Some : goal.returns-in-Some
returns-in-Some g c p things constants =
    message_some _ c.heap_laws.ensures.each c.args.shapes.now c.args.heap.now p things constants c.args.thrown c.in-Some.m c.in-Some.ensures
