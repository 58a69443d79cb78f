use Rattle.std.proofs.Common.{◌∙◌, List, ap}
use Rattle.std.specs.Prelude.{slice_get}
use Rattle.jdomain.specs.Domains.{has}
use Rattle.jctx.specs.declared.item.Item.{Item}
use Rattle.jctx.specs.Contexts.{along, verdict}
use Rattle.jinterned.proofs.LimitNumbers.{context_is}
use Rattle.jinterned.proofs.TableInvariants.{number_there}
use Rattle.jinterned.proofs.table.Table.verdict.Goals as goal

pub verdict-requires : goal.verdict-requires
verdict-requires c = number_there c.self.inside.store c.args.self.now c.args.c c.self.view_is c.requires

pub returns-clause-value : goal.returns-clause-value
returns-clause-value c items at =
    c.verdict.ensures
    ∙ ap (verdict (has c.args.domains.now) c.args.asked.now)
    (context_is c.self.inside.store c.args.c items (ap (λ (cs : List (List Item)). slice_get cs c.args.c) c.self.view_is ∙ at))

pub returns-clause-along : goal.returns-clause-along
returns-clause-along c s at =
    c.verdict.ensures
    ∙ ap (verdict (has c.args.domains.now) c.args.asked.now)
    (context_is c.self.inside.store c.args.c (along s) (ap (λ (cs : List (List Item)). slice_get cs c.args.c) c.self.view_is ∙ at))
    ∙ c.context_laws.ensures.decides (has c.args.domains.now) c.args.asked.now s
