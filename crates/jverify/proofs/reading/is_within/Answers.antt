use Rattle.std.proofs.Common.{sym, ◌∙◌, arith}
use Rattle.jverify.proofs.FrameTests.{within_ends, within_more, within_stops}
use Rattle.jverify.proofs.reading.is_within.Goals as goal

pub returns-then-left-count : goal.returns-then-left-count
returns-then-left-count c =
    sym (within_stops c.args.items.now c.loop-kind.kind-index _ c.loop-kind.left c.size-count.result c.loop-kind-test.true c.size-count.ensures c.if-left-count.true) ∙ c.loop-kind.invariant

pub loop-kind-preserved : goal.loop-kind-preserved
loop-kind-preserved c =
    within_more c.args.items.now c.loop-kind.kind-index _ c.loop-kind.left c.size-count.result c.loop-kind-test.true c.size-count.ensures c.if-left-count.false ∙ c.loop-kind.invariant

pub returns : goal.returns
returns c = sym (within_ends c.args.items.now c.loop-kind.kind-index c.loop-kind.left (omega arith)) ∙ c.loop-kind.invariant
