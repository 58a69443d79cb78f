use Rattle.jlibcalls.proofs.JchecksProofs.Messages.{one_part}
use Rattle.jlibcalls.proofs.jchecks.judging.message_of.Goals as goal

pub loop-at-preserved : goal.loop-at-preserved
loop-at-preserved c =
    rw c.in_ok-extend_from_slice.ensures.items
    (one_part c.args.asked.now c.loop-at.at 11 c.loop-at.units.items c.part.result.now (c.text_laws.ensures.count c.args.asked.now) c.loop-at-test.true c.part.ensures c.loop-at.invariant)
