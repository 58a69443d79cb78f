use Rattle.jrows.proofs.JcallsProofs.MethodReturns.{all_nothing}
use Rattle.jrows.proofs.jcalls.returns.return_nothing.Goals as goal

pub returns-clause-row : goal.returns-clause-row
returns-clause-row g c = all_nothing c.args.marks.now c.args.frames.now c.leave.new.frames c.leave.result c.leave.ensures.row
