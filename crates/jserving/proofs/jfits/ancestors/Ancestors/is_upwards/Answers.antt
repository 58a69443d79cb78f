use Rattle.jserving.proofs.JfitsProofs.SuperclassWalks.{walk_ends, walk_found, walk_goes_on, walk_over}
use Rattle.jserving.proofs.jfits.ancestors.Ancestors.is_upwards.Goals as goal

pub returns-then-are_same : goal.returns-then-are_same
returns-then-are_same c =
    walk_found c.args.self.now _ c.loop-step.step c.args.c c.args.d c.loop-step.at c.loop-step.invariant.0 c.loop-step.invariant.1.1 c.loop-step-test.true
    c.are_same.result c.are_same.ensures c.if-are_same.true

pub returns-in-None : goal.returns-in-None
returns-in-None c =
    walk_ends c.args.self.now _ c.loop-step.step c.args.c c.args.d c.loop-step.at c.loop-step.invariant.0 c.loop-step.invariant.1.1 c.loop-step-test.true
    c.are_same.result c.are_same.ensures c.if-are_same.false c.loop-step.invariant.1.0 c.above.result c.above.ensures c.requires.second c.in-None.is

pub loop-step-preserved : goal.loop-step-preserved
loop-step-preserved c =
    walk_goes_on c.args.self.now _ c.loop-step.step c.args.c c.args.d c.loop-step.at c.loop-step.invariant.0 c.loop-step.invariant.1.1 c.loop-step-test.true
    c.are_same.result c.are_same.ensures c.if-are_same.false c.loop-step.invariant.1.0 c.above.result c.above.ensures c.in-Some.above c.in-Some.is

pub returns : goal.returns
returns c = walk_over c.args.self.now _ c.loop-step.step c.args.c c.args.d c.loop-step.at c.loop-step.invariant.0 c.loop-step.invariant.1.1 c.loop-step-test.false
