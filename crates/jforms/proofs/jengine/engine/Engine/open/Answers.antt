use Rattle.jforms.specs.jtables.RunPositions.{course_of}
use Rattle.jforms.proofs.JtablesProofs.EngineRuns.{ended_first, found_first, holds_first, live_in, stands_first, steps_first}
use Rattle.jforms.proofs.jengine.engine.Engine.open.Goals as goal

pub start-requires-clause-safe : goal.start-requires-clause-safe
start-requires-clause-safe g c = record { sound = c.is_sound.ensures; side = c.requires.side; sided = c.requires.sided }

pub returns-clause-stands : goal.returns-clause-stands
returns-clause-stands g c =
    let kept = g.G.Guard.kept c.start.new.guard in
    let entry = g.G.Guard.entry c.start.new.guard in
    let rules = g.G.Guard.rules c.args.guard in
    let p = c.args.program.now in
    let plan = c.args.plan.now in
    rw c.course_of.ensures (stands_first kept entry g.G.Guard.mark rules p plan c.in_ok-begun.begun c.in_ok-begun.ensures.starts)

pub returns-clause-steps : goal.returns-clause-steps
returns-clause-steps g c =
    let kept = g.G.Guard.kept c.start.new.guard in
    let entry = g.G.Guard.entry c.start.new.guard in
    let rules = g.G.Guard.rules c.args.guard in
    let p = c.args.program.now in
    let plan = c.args.plan.now in
    rw (c.course_of.ensures, c.start.ensures.rules) (steps_first kept entry g.G.Guard.mark rules p plan c.in_ok-begun.begun c.in_ok-begun.ensures.starts)

pub returns-clause-ended : goal.returns-clause-ended
returns-clause-ended g c =
    let kept = g.G.Guard.kept c.start.new.guard in
    let entry = g.G.Guard.entry c.start.new.guard in
    let rules = g.G.Guard.rules c.args.guard in
    let p = c.args.program.now in
    let plan = c.args.plan.now in
    rw c.course_of.ensures (ended_first kept entry g.G.Guard.mark rules p plan c.in_ok-begun.begun c.in_ok-begun.ensures.starts)

pub returns-clause-found : goal.returns-clause-found
returns-clause-found g c = rw c.course_of.ensures (found_first c.in_ok-begun.begun)

pub invariant_of-result : goal.invariant_of-result
invariant_of-result g c =
    let kept = g.G.Guard.kept c.start.new.guard in
    let entry = g.G.Guard.entry c.start.new.guard in
    let rules = g.G.Guard.rules c.args.guard in
    let p = c.args.program.now in
    let plan = c.args.plan.now in
    rw (c.course_of.ensures, c.start.ensures.rules) (holds_first kept entry g.G.Guard.mark rules p plan c.in_ok-begun.begun c.in_ok-begun.ensures.starts)

pub returns-clause-threads : goal.returns-clause-threads
returns-clause-threads g c =
    let kept = g.G.Guard.kept c.start.new.guard in
    let entry = g.G.Guard.entry c.start.new.guard in
    let rules = g.G.Guard.rules c.args.guard in
    let p = c.args.program.now in
    let plan = c.args.plan.now in
    let begun = c.in_ok-begun.begun in
    rw c.course_of.ensures (live_in kept entry g.G.Guard.mark rules (course_of begun) (holds_first kept entry g.G.Guard.mark rules p plan begun c.in_ok-begun.ensures.starts))
