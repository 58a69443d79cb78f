use Rattle.std.proofs.Common.{◌∙◌, arith}
use Rattle.jinterned.proofs.PairLists.{taken, taken_next, taken_all}
use Rattle.jinterned.proofs.lists.push_all.Goals as goal

pub returns-in_err-push-clause-more : goal.returns-in_err-push-clause-more
returns-in_err-push-clause-more c =
    taken c.args.pairs.now c.push.new.self c.args.list.now c.loop-pair.pair-index (c.in_err-push.ensures.err ∙ c.loop-pair.invariant)

pub loop-pair-preserved : goal.loop-pair-preserved
loop-pair-preserved c =
    taken_next c.args.pairs.now c.loop-pair.pairs c.push.new.self c.args.list.now c.loop-pair.pair-index _ c.loop-pair.invariant c.loop-pair-test.true c.in_ok-push.ensures.ok

pub returns-clause-ok : goal.returns-clause-ok
returns-clause-ok c = taken_all c.args.pairs.now c.loop-pair.pairs c.args.list.now c.loop-pair.pair-index c.loop-pair.invariant (omega arith)

pub returns-clause-more : goal.returns-clause-more
returns-clause-more c = taken c.args.pairs.now c.loop-pair.pairs c.args.list.now c.loop-pair.pair-index c.loop-pair.invariant
