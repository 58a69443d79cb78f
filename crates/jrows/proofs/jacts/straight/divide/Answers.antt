use Rattle.jrows.proofs.JactsProofs.OperandInstructions.{divided}
use Rattle.jrows.proofs.jacts.straight.divide.Goals as goal

pub returns-in-Some-Ok-clause-row : goal.returns-in-Some-Ok-clause-row
returns-in-Some-Ok-clause-row g c =
    let is = rw c.in-Some-Ok.field-0-is at c.in-Some-Ok.ensures.value in
    rw c.give_for.ensures
    (divided c.args.frames.now.newest c.args.op c.operand.result c.operand-2.result c.in-Some-Ok.value (c.operand-2.ensures, c.operand.ensures) c.in-Some-Ok.ensures.kinds is)
