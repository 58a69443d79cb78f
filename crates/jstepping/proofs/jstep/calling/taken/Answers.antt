use Rattle.jstepping.proofs.JstepProofs.CallSteps.{none_taken, some_taken}
use Rattle.jstepping.proofs.jstep.calling.taken.Goals as goal

pub returns-then-not-serves-clause-takes : goal.returns-then-not-serves-clause-takes
returns-then-not-serves-clause-takes g c =
    none_taken c.args.fixed.now c.args.counts c.args.heap.now c.args.frames.now c.args.by c.args.owner c.args.params c.params-types.result.now
    c.params-types.ensures c.serves.result c.serves.ensures.serve c.if-not-serves.true

pub returns-clause-takes : goal.returns-clause-takes
returns-clause-takes g c =
    some_taken c.args.fixed.now c.args.counts c.args.heap.now c.args.frames.now c.args.by c.args.owner c.args.params c.params-types.result.now
    c.params-types.ensures c.serves.result c.serves.ensures.serve c.count_of.result c.if-not-serves.false c.count_of.ensures
