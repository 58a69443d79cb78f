use Rattle.std.proofs.Common.{◌≤◌, ◌∷◌, ◌++◌, subst}
use Rattle.std.proofs.lemmas.List.{length-map}
use Rattle.jctx.specs.Contexts.{limited}
use Rattle.jctx.specs.ProofNames.{given_items}
use Rattle.jctx.specs.ContextItems.{plain}
use Rattle.jctx.proofs.StackVerdicts.{verdict-along}
use Rattle.jctx.proofs.MinimalContexts.{keep-keep, distinct_domains-keep, length-keep, along_kept}
use Rattle.jctx.proofs.Growth.{enter_same}
use Rattle.jctx.proofs.LimitedPrivileges.{privileged-entered}
use Rattle.jctx.proofs.laws.context_laws.Goals as goal

pub returns-clause-decides : goal.returns-clause-decides
returns-clause-decides c has asked s = verdict-along c.permission_laws.ensures.same asked has s

pub returns-clause-entered : goal.returns-clause-entered
returns-clause-entered c items d = keep-keep (plain d ∷ items)

pub returns-clause-privileged : goal.returns-clause-privileged
returns-clause-privileged c d given limits items = keep-keep (plain d ∷ given_items given ++ limited limits items)

pub returns-clause-along : goal.returns-clause-along
returns-clause-along c = along_kept

pub returns-clause-differ : goal.returns-clause-differ
returns-clause-differ c = distinct_domains-keep

pub returns-clause-small : goal.returns-clause-small
returns-clause-small c items n kept none below = subst (λ k. k ≤ n) (length-map items (λ i. i.domain)) (length-keep items n kept none below)

pub returns-clause-same : goal.returns-clause-same
returns-clause-same c = enter_same

pub returns-clause-behind : goal.returns-clause-behind
returns-clause-behind c = privileged-entered c.permission_laws.ensures.same
