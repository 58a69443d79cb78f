use Rattle.jlibcalls.proofs.JcontextsProofs.PrivilegedCalls.{some_context}
use Rattle.jlibcalls.proofs.jcontexts.wanting.by_context.Goals as goal

pub returns-in-Some : goal.returns-in-Some
returns-in-Some g c =
    some_context _ c.args.heap.now c.args.kept.now c.args.domain c.args.ctx c.args.limits c.args.context c.args.action c.in-Some.given c.by_action.result
    c.in-Some.ensures c.by_action.ensures
