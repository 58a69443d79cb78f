use Rattle.std.proofs.Common.{◌∙◌, [], length, sym, arith}
use Rattle.std.specs.Prelude.{get_or}
use Rattle.jdomain.specs.Domains.{has}
use Rattle.jinterned.specs.ContextStores.{item_of}
use Rattle.jinterned.proofs.LimitNumbers.{named_at}
use Rattle.jinterned.proofs.ListRuns.{all_decides, named_run, one_decides, two_decides}
use Rattle.jinterned.proofs.making.decide.Goals as goal

pub returns-then-count-eq1 : goal.returns-then-count-eq1
returns-then-count-eq1 c =
    c.decide_item.ensures
    ∙ one_decides (item_of c.args.sets.now) (has c.args.domains.now) c.args.asked.now (get_or c.args.lists.now c.args.n []) c.head-head.result
    (omega (arith, c.if-count-eq1.true, c.count-count.ensures)) c.head-head.ensures

pub returns-then-count-eq2 : goal.returns-then-count-eq2
returns-then-count-eq2 c =
    c.decide_two.ensures
    ∙ two_decides (item_of c.args.sets.now) (has c.args.domains.now) c.args.asked.now (get_or c.args.lists.now c.args.n []) c.head-head.result c.next.result
    (omega (arith, c.if-count-eq2.true, c.count-count.ensures)) c.head-head.ensures c.next.ensures

pub decide_all-requires-clause-behind : goal.decide_all-requires-clause-behind
decide_all-requires-clause-behind c =
    named_run (length c.args.sets.now) 2 (get_or c.args.lists.now c.args.n []) c.run-behind.result.now c.run-behind.ensures
    (λ i p is. named_at (length c.args.sets.now) c.args.lists.now c.args.n i p c.requires.lists c.requires.there (sym is))
