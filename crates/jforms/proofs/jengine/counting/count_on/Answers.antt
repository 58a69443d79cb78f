use Rattle.std.proofs.Common.{refl, sym}
use Rattle.jsemantics.specs.jmachine.Machine.{opening, run}
use Rattle.jsemantics.specs.jmachine.MachineSteps.{step}
use Rattle.jruntime.proofs.JrunProofs.Courses.{if_ok}
use Rattle.jforms.proofs.jengine.counting.count_on.Goals as goal

pub returns : goal.returns
unfolding run
returns g c =
    let rules = g.G.Guard.rules c.args.guard in
    let p = c.args.program.now in
    let plan = c.args.plan.now in
    if_ok c.count_all-told.result (λ t is. is (step rules p plan) (opening rules p plan) refl
    (record { end = sym c.in_ok-engine.ensures.ended; state = c.in_ok-engine.ensures.stands; same = c.in_ok-engine.ensures.steps })) c.count_all-told.ensures
