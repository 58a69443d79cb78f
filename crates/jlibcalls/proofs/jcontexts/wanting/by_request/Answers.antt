use Rattle.jlibcalls.proofs.JcontextsProofs.PrivilegedCalls.{limited_wants, within_wants}
use Rattle.jlibcalls.proofs.jcontexts.wanting.by_request.Goals as goal

pub returns-in-Context : goal.returns-in-Context
returns-in-Context g c =
    within_wants _ c.args.permissions.now c.args.kept.now c.args.shapes.now c.args.heap.now c.args.request c.in-Context.context c.by_context.result
    c.in-Context.is c.by_context.ensures

pub returns-in_ok-found-in-Limits : goal.returns-in_ok-found-in-Limits
returns-in_ok-found-in-Limits g c =
    limited_wants _ c.args.permissions.now c.args.kept.now c.args.shapes.now c.args.heap.now c.args.request c.in-Limits.ctx c.in-Limits.array
    c.in-Limits.context c.in_ok-found-in-Limits.found c.by_limits.result c.in-Limits.is c.in_ok-found-in-Limits.ensures c.by_limits.ensures
