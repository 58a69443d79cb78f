use Rattle.jlibcalls.proofs.JthreadingProofs.Operands.{alone_few, given_alone}
use Rattle.jlibcalls.proofs.JthreadingProofs.ThreadOutcomes.{few_are}
use Rattle.jlibcalls.proofs.jthreading.making.named_alone.Goals as goal

pub returns-then-count-ne2 : goal.returns-then-count-ne2
returns-then-count-ne2 g c f frames =
    alone_few f c.args.heap.now c.args.count (few_are c.args.count c.args.guests.now f c.requires.may frames) c.if-count-ne2.true

pub returns : goal.returns
returns g c f frames = given_alone f c.args.heap.now c.args.count c.in_ok-begun.begun c.if-count-ne2.false (c.in_ok-begun.ensures f frames)
