use Rattle.std.proofs.Common.{◌≡◌, drop}
use Rattle.jdomain.specs.Domains.{has}
use Rattle.jctx.specs.Contexts.{verdict}
use Rattle.jctx.proofs.context.Context.first_failing.Given as goal

-- what is left decides as the whole does
abbrev pub invariant-loop-item : goal.invariant-loop-item
invariant-loop-item l = verdict (has l.domains) l.asked (drop l.item-index l.item-items) ≡ verdict (has l.domains) l.asked l.item-items
