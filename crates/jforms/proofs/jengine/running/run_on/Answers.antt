use Rattle.std.proofs.Common.{◌≡◌, ◌<◌, subst, sym}
use Rattle.jground.specs.jbase.FaultCauses.{IsCut, appended}
use Rattle.jground.proofs.JbaseProofs.Cuts.{cut_none}
use Rattle.jsemantics.specs.jmachine.MachineStates.{State}
use Rattle.jsemantics.specs.jmachine.Machine.{opening, run as run_of}
use Rattle.jsemantics.specs.jmachine.OpeningState.{opening_charge}
use Rattle.jsemantics.specs.jmachine.RunTraces.{Run, ending, run_text}
use Rattle.jsemantics.specs.jmachine.Security.{Rules}
use Rattle.jruntime.proofs.JrunProofs.Courses.{if_ok, on_err, on_ok}
use Rattle.jforms.specs.jtables.Engines.{IsEngine}
use Rattle.jforms.specs.jtables.RunTables.{Starts}
use Rattle.jforms.proofs.JengineProofs.InitialMachines.{at_err, ended, runs_by}
use Rattle.jforms.proofs.jengine.running.run_on.Goals as goal

-- where there is no memory

pub returns-in_err-begun-clause-cut : goal.returns-in_err-begun-clause-cut
returns-in_err-begun-clause-cut g c =
    let plan = c.args.plan.now in
    at_err c.from_residual.result
    (cut_none (g.K.Sink.out c.args.out.now) (run_text (run_of (g.G.Guard.rules c.args.guard) c.args.program.now plan plan.steps)))

-- where the heap has too few cells

pub returns-in-None-clause-written : goal.returns-in-None-clause-written
returns-in-None-clause-written g c =
    let p = c.args.program.now in
    let plan = c.args.plan.now in
    let few : plan.heap < opening_charge p = rw c.in-None.is at c.in_ok-begun.ensures.starts in
    on_ok c.close.result (λ written. rw (ended (g.G.Guard.rules c.args.guard) p plan plan.steps few) written) c.close.ensures.ok

pub returns-in-None-clause-end : goal.returns-in-None-clause-end
returns-in-None-clause-end g c =
    let p = c.args.program.now in
    let plan = c.args.plan.now in
    let few : plan.heap < opening_charge p = rw c.in-None.is at c.in_ok-begun.ensures.starts in
    if_ok c.close.result (λ end is. rw (ended (g.G.Guard.rules c.args.guard) p plan plan.steps few) is) c.close.ensures.end

pub returns-in-None-clause-cut : goal.returns-in-None-clause-cut
returns-in-None-clause-cut g c =
    let p = c.args.program.now in
    let plan = c.args.plan.now in
    let few : plan.heap < opening_charge p = rw c.in-None.is at c.in_ok-begun.ensures.starts in
    on_err c.close.result (λ cut. rw (ended (g.G.Guard.rules c.args.guard) p plan plan.steps few) cut) c.close.ensures.err

-- where it begins

pub run-came-requires : goal.run-came-requires
run-came-requires g c =
    let begun : Starts _ _ _ _ c.args.program.now c.args.plan.now c.in-Some.machine = rw c.in-Some.is at c.in_ok-begun.ensures.starts in
    subst (λ (r : Rules _ _). IsEngine (g.G.Guard.kept c.start.new.guard) (g.G.Guard.entry c.start.new.guard) g.G.Guard.mark r c.in-Some.machine)
    (sym c.start.ensures.rules) begun.engine

pub returns-in-Some-clause-written : goal.returns-in-Some-clause-written
returns-in-Some-clause-written g c =
    let p = c.args.program.now in
    let plan = c.args.plan.now in
    let rules = g.G.Guard.rules c.args.guard in
    let begun : Starts _ _ _ rules p plan c.in-Some.machine = rw c.in-Some.is at c.in_ok-begun.ensures.starts in
    on_ok c.run-came.result (λ written. subst (λ (r : Run (State _ _)). g.K.Sink.out c.run-came.new.out ≡ appended (g.K.Sink.out c.args.out.now) (run_text r))
    (runs_by rules (g.G.Guard.rules c.start.new.guard) p plan plan.steps c.in-Some.machine c.start.ensures.rules begun.steps) (written (opening rules p plan) begun.begins)) c.run-came.ensures.written

pub returns-in-Some-clause-end : goal.returns-in-Some-clause-end
returns-in-Some-clause-end g c =
    let p = c.args.program.now in
    let plan = c.args.plan.now in
    let rules = g.G.Guard.rules c.args.guard in
    let begun : Starts _ _ _ rules p plan c.in-Some.machine = rw c.in-Some.is at c.in_ok-begun.ensures.starts in
    if_ok c.run-came.result (λ end is. subst (λ (r : Run (State _ _)). end ≡ ending r)
    (runs_by rules (g.G.Guard.rules c.start.new.guard) p plan plan.steps c.in-Some.machine c.start.ensures.rules begun.steps) (is (opening rules p plan) begun.begins)) c.run-came.ensures.end

pub returns-in-Some-clause-cut : goal.returns-in-Some-clause-cut
returns-in-Some-clause-cut g c =
    let p = c.args.program.now in
    let plan = c.args.plan.now in
    let rules = g.G.Guard.rules c.args.guard in
    let begun : Starts _ _ _ rules p plan c.in-Some.machine = rw c.in-Some.is at c.in_ok-begun.ensures.starts in
    on_err c.run-came.result (λ cut. subst (λ (r : Run (State _ _)). IsCut (g.K.Sink.out c.args.out.now) (g.K.Sink.out c.run-came.new.out) (run_text r))
    (runs_by rules (g.G.Guard.rules c.start.new.guard) p plan plan.steps c.in-Some.machine c.start.ensures.rules begun.steps) (cut (opening rules p plan) begun.begins)) c.run-came.ensures.cut
