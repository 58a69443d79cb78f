use Rattle.jrows.proofs.JtextsProofs.MessageRows.{can_tell, message_row, no_object, no_text}
use Rattle.jrows.proofs.jtexts.thrown.init_message.Goals as goal

pub tell-requires-clause-cell : goal.tell-requires-clause-cell
tell-requires-clause-cell g c = can_tell c.args.shapes.now c.args.heap.now c.args.thrown c.in-Some.o c.requires.cell c.in-Some.ensures

pub returns-in_default-clause-row : goal.returns-in_default-clause-row
returns-in_default-clause-row g c p things constants = no_object _ _ c.args.thrown c.args.message c.in_default.ensures

pub returns-in_default-reference-clause-row : goal.returns-in_default-reference-clause-row
returns-in_default-reference-clause-row g c p things constants = no_text _ _ c.args.thrown c.args.message c.in_default-reference.ensures

pub returns-clause-row : goal.returns-clause-row
returns-clause-row g c p things constants =
    message_row _ _ _ _ c.args.thrown c.args.message c.in-Some.o c.in-Some-reference.m c.in-Some.ensures c.in-Some-reference.ensures
    (c.tell.ensures.row p things constants)
