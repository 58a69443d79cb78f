use Rattle.jrows.proofs.JcallsProofs.MethodEntry.{codeless}
use Rattle.jrows.proofs.jcalls.calls.enter.Goals as goal

pub returns-then-not-callee-clause-row : goal.returns-then-not-callee-clause-row
returns-then-not-callee-clause-row g c =
    codeless c.args.count c.args.frames.now c.args.room.depth c.args.room.frames c.args.callee c.args.frames.now c.requires.room c.if-is_full.ensures
    c.if-not-callee.true
