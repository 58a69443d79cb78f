use Rattle.jverify.specs.CheckedMethods.{method_of}
use Rattle.jverify.proofs.ServedFrames.{nearest_more}
use Rattle.jverify.proofs.walk.Checking.next_begin.Goals as goal

pub loop-h-preserved : goal.loop-h-preserved
loop-h-preserved c =
    nearest_more (method_of c.args.self.now).body.handlers c.loop-h.h-index _ c.args.at c.loop-h.next c.nearer-next.result c.loop-h-test.true c.nearer-next.ensures.near c.nearer-next.ensures.start c.loop-h.invariant
