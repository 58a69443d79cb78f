use Rattle.std.proofs.Common.{◌∙◌, Some, ap}
use Rattle.jlibcalls.proofs.JcontextsProofs.PrivilegedCalls.{limits_at}
use Rattle.jlibcalls.proofs.jcontexts.wanting.by_limits.Goals as goal

pub returns-in-Some-Some : goal.returns-in-Some-Some
returns-in-Some-Some g c =
    limits_at _ c.args.heap.now c.args.kept.now c.args.domain c.args.ctx c.args.context c.args.action c.in-Some-Some.limits c.args.limits c.by_context.result
    (c.in-Some-Some.is ∙ ap (λ x. Some x) c.in-Some-Some.field-0-is) c.by_context.ensures
