use Rattle.jrows.proofs.JactsProofs.OperandInstructions.{two_done}
use Rattle.jrows.proofs.jacts.straight.compute_two.Goals as goal

pub returns-in-Some-clause-row : goal.returns-in-Some-clause-row
returns-in-Some-clause-row g c =
    rw c.give_for.ensures
    (two_done c.args.frames.now.newest c.args.op c.operand.result c.operand-2.result c.in-Some.value (c.operand-2.ensures, c.operand.ensures) c.in-Some.ensures.kinds c.in-Some.ensures.value)
