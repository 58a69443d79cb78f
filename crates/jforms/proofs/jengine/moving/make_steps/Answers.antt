use Rattle.std.proofs.Common.{subst, sym}
use Rattle.jsemantics.specs.jmachine.Security.{Rules}
use Rattle.jruntime.specs.jrun.StepOutcomes.{WhereWent}
use Rattle.jforms.specs.jtables.Engines.{IsEngine}
use Rattle.jforms.proofs.JengineProofs.StepPremises.{has_rules}
use Rattle.jforms.proofs.JengineProofs.QuickRuns.{engine_then, executed, executed_engine, executed_goes, isnt_stuck, last_goes, quietly_then}
use Rattle.jforms.proofs.jengine.moving.make_steps.Goals as goal

pub hasten-requires-clause-ready : goal.hasten-requires-clause-ready
hasten-requires-clause-ready g c = c.requires.ready.ready

pub hasten-requires-clause-rules : goal.hasten-requires-clause-rules
hasten-requires-clause-rules g c = has_rules g.G.Guard.mark c.args.machine.now c.requires.ready.carry

pub answer-requires : goal.answer-requires
answer-requires g c =
    rw c.in-Some.is
    (executed (g.G.Guard.kept c.args.guard.now) (g.G.Guard.entry c.args.guard.now) g.G.Guard.mark (g.G.Guard.rules c.args.guard.now) c.guard_laws.ensures.step
    c.states_laws.ensures.step
    c.args.machine.now c.hasten.new.m c.args.most c.in_ok-made.made c.in_ok-made.ensures.tries c.requires.ready c.in-Some.found c.in-Some.is c.in_ok-made.ensures.fixed
    c.guard_laws.ensures.known)

pub stepped-requires : goal.stepped-requires
stepped-requires g c =
    isnt_stuck (g.G.Guard.kept c.args.guard.now) (g.G.Guard.entry c.args.guard.now) g.G.Guard.mark (g.G.Guard.rules c.args.guard.now) c.guard_laws.ensures.step
    c.states_laws.ensures.step
    c.args.machine.now c.hasten.new.m c.args.most c.in_ok-made.made c.in_ok-made.ensures.tries c.requires.ready c.in-Some.found c.in-Some.is c.in_ok-made.ensures.fixed
    (g.G.Guard.kept c.answer.new.guard) (g.G.Guard.entry c.answer.new.guard) c.answer.new.m c.in_ok-came-in-Some.came
    c.answer.ensures.keeps c.answer.ensures.marks (rw c.in-Some.is at c.in_ok-came-in-Some.ensures.answered)

pub returns-in_ok-came-in-Some-clause-goes : goal.returns-in_ok-came-in-Some-clause-goes
returns-in_ok-came-in-Some-clause-goes g c s stands =
    executed_goes (g.G.Guard.kept c.args.guard.now) (g.G.Guard.entry c.args.guard.now) g.G.Guard.mark (g.G.Guard.rules c.args.guard.now) c.guard_laws.ensures.step
    c.states_laws.ensures.step
    c.args.machine.now c.hasten.new.m c.args.most c.in_ok-made.made c.in_ok-made.ensures.tries c.requires.ready c.in-Some.found c.in-Some.is c.in_ok-made.ensures.fixed
    (g.G.Guard.kept c.answer.new.guard) (g.G.Guard.entry c.answer.new.guard) c.answer.new.m c.in_ok-came-in-Some.came
    c.answer.ensures.keeps c.answer.ensures.marks (rw c.in-Some.is at c.in_ok-came-in-Some.ensures.answered) c.stepped.result c.stepped.ensures s stands

pub returns-in_ok-came-in-Some-clause-ready : goal.returns-in_ok-came-in-Some-clause-ready
returns-in_ok-came-in-Some-clause-ready g c =
    rw c.stepped.ensures
    (subst (λ (r : Rules g.G.Guard.Kept g.G.Guard.Entry). WhereWent
    (IsEngine (g.G.Guard.kept c.answer.new.guard) (g.G.Guard.entry c.answer.new.guard) g.G.Guard.mark r c.answer.new.m) c.in_ok-came-in-Some.came)
    (sym c.answer.ensures.rules)
    (executed_engine (g.G.Guard.kept c.args.guard.now) (g.G.Guard.entry c.args.guard.now) g.G.Guard.mark (g.G.Guard.rules c.args.guard.now) c.guard_laws.ensures.step
    c.states_laws.ensures.step
    c.args.machine.now c.hasten.new.m c.args.most c.in_ok-made.made c.in_ok-made.ensures.tries c.requires.ready c.in-Some.found c.in-Some.is c.in_ok-made.ensures.fixed
    (g.G.Guard.kept c.answer.new.guard) (g.G.Guard.entry c.answer.new.guard) c.answer.new.m c.in_ok-came-in-Some.came
    c.answer.ensures.keeps c.answer.ensures.marks (rw c.in-Some.is at c.in_ok-came-in-Some.ensures.answered) c.in_ok-came-in-Some.ensures.fixed
    c.in_ok-came-in-Some.ensures.ready))

pub move_on-requires : goal.move_on-requires
move_on-requires g c = record {
  ready = engine_then (g.G.Guard.kept c.args.guard.now) (g.G.Guard.entry c.args.guard.now) g.G.Guard.mark (g.G.Guard.rules c.args.guard.now)
      c.guard_laws.ensures.step c.states_laws.ensures.step c.args.machine.now c.hasten.new.m c.args.most c.in_ok-made.made c.in_ok-made.ensures.tries c.requires.ready
      c.in-None.is;
}

pub returns-then-quiet-most-clause-goes : goal.returns-then-quiet-most-clause-goes
returns-then-quiet-most-clause-goes g c s stands =
    last_goes (g.G.Guard.kept c.args.guard.now) (g.G.Guard.entry c.args.guard.now) g.G.Guard.mark (g.G.Guard.rules c.args.guard.now) c.guard_laws.ensures.step
    c.states_laws.ensures.step
    c.args.machine.now c.hasten.new.m c.args.most c.in_ok-made.made c.in_ok-made.ensures.tries c.requires.ready c.in-None.is
    (g.G.Guard.kept c.move_on.new.guard) (g.G.Guard.entry c.move_on.new.guard) c.move_on.new.machine c.in_ok-came-in-None.came c.in_ok-came-in-None.ensures.comes s stands

pub returns-else-quiet-most-clause-goes : goal.returns-else-quiet-most-clause-goes
returns-else-quiet-most-clause-goes g c s stands =
    quietly_then (g.G.Guard.kept c.args.guard.now) (g.G.Guard.entry c.args.guard.now) g.G.Guard.mark (g.G.Guard.rules c.args.guard.now) c.guard_laws.ensures.step
    c.states_laws.ensures.step
    c.args.machine.now c.hasten.new.m c.args.most c.in_ok-made.made c.in_ok-made.ensures.tries c.requires.ready c.in-None.is s stands

pub returns-else-quiet-most-clause-ready : goal.returns-else-quiet-most-clause-ready
returns-else-quiet-most-clause-ready g c =
    engine_then (g.G.Guard.kept c.args.guard.now) (g.G.Guard.entry c.args.guard.now) g.G.Guard.mark (g.G.Guard.rules c.args.guard.now) c.guard_laws.ensures.step
    c.states_laws.ensures.step
    c.args.machine.now c.hasten.new.m c.args.most c.in_ok-made.made c.in_ok-made.ensures.tries c.requires.ready c.in-None.is
