use Rattle.jrows.proofs.JtextsProofs.MessageRows.{can_tell, init_row, nothing_named}
use Rattle.jrows.proofs.jtexts.thrown.init.Goals as goal

pub tell-requires-clause-cell : goal.tell-requires-clause-cell
tell-requires-clause-cell g c = can_tell c.args.shapes.now c.args.heap.now c.args.thrown c.in-Some.o c.requires.cell c.in-Some.ensures

pub returns-in-None-clause-row : goal.returns-in-None-clause-row
returns-in-None-clause-row g c p things constants = nothing_named _ _ c.args.thrown c.in-None.ensures

pub returns-in-Some-clause-row : goal.returns-in-Some-clause-row
returns-in-Some-clause-row g c p things constants = init_row _ _ _ _ c.args.thrown c.in-Some.o c.in-Some.ensures (c.tell.ensures.row p things constants)
