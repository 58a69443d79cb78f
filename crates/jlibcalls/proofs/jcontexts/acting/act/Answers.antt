use Rattle.jlibcalls.proofs.JcontextsProofs.ActionCalls.{without_code}
use Rattle.jlibcalls.proofs.jcontexts.acting.act.Goals as goal

pub returns-then-not-callee-clause-row : goal.returns-then-not-callee-clause-row
returns-then-not-callee-clause-row g c =
    without_code c.args.callee c.args.action c.args.caller c.args.ctx c.args.count c.args.frames.now c.args.frames.now c.if-not-callee.true
