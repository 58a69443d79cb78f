use Rattle.std.proofs.Common.{subst, sym}
use Rattle.jsemantics.specs.jmachine.Security.{Rules}
use Rattle.jruntime.specs.jrun.StepOutcomes.{WhereWent}
use Rattle.jguard.specs.NumberMeanings.{StandsFor}
use Rattle.jstepping.specs.jcore.MachineInvariants.{state_of}
use Rattle.jforms.specs.jtables.Engines.{IsEngine}
use Rattle.jforms.proofs.JtablesProofs.StepAgreement.{engine_again, engine_steps, knows, never_stuck, same_steps}
use Rattle.jforms.proofs.jengine.moving.move_on.Goals as goal

pub advance-requires-clause-ready : goal.advance-requires-clause-ready
advance-requires-clause-ready g c = c.requires.ready.ready

pub advance-requires-clause-carry : goal.advance-requires-clause-carry
advance-requires-clause-carry g c = c.requires.ready.carry

pub advance-requires-clause-known : goal.advance-requires-clause-known
advance-requires-clause-known g c =
    let kept = g.G.Guard.kept c.args.guard.now in
    let entry = g.G.Guard.entry c.args.guard.now in
    let rules = g.G.Guard.rules c.args.guard.now in
    knows kept entry g.G.Guard.mark rules c.args.machine.now c.guard_laws.ensures.known c.requires.ready

pub stepped-requires : goal.stepped-requires
stepped-requires g c =
    let kept = g.G.Guard.kept c.args.guard.now in
    let entry = g.G.Guard.entry c.args.guard.now in
    let rules = g.G.Guard.rules c.args.guard.now in
    let later = g.G.Guard.kept c.advance.new.guard in
    let afterwards = g.G.Guard.entry c.advance.new.guard in
    never_stuck kept entry g.G.Guard.mark rules c.args.machine.now c.in_ok-came.came (λ t. StandsFor later afterwards (state_of c.advance.new.m) t) c.states_laws.ensures.step c.requires.ready
    (engine_steps kept later entry afterwards g.G.Guard.mark rules c.args.machine.now c.advance.new.m c.in_ok-came.came c.guard_laws.ensures.step
    c.advance.ensures.keeps c.advance.ensures.marks c.requires.ready c.in_ok-came.ensures.answered)

pub returns-clause-comes : goal.returns-clause-comes
returns-clause-comes g c s stands =
    let kept = g.G.Guard.kept c.args.guard.now in
    let entry = g.G.Guard.entry c.args.guard.now in
    let rules = g.G.Guard.rules c.args.guard.now in
    let later = g.G.Guard.kept c.advance.new.guard in
    let afterwards = g.G.Guard.entry c.advance.new.guard in
    rw c.stepped.ensures (engine_steps kept later entry afterwards g.G.Guard.mark rules c.args.machine.now c.advance.new.m c.in_ok-came.came c.guard_laws.ensures.step
    c.advance.ensures.keeps c.advance.ensures.marks c.requires.ready c.in_ok-came.ensures.answered s stands)

pub returns-clause-ready : goal.returns-clause-ready
returns-clause-ready g c =
    let kept = g.G.Guard.kept c.args.guard.now in
    let entry = g.G.Guard.entry c.args.guard.now in
    let rules = g.G.Guard.rules c.args.guard.now in
    let later = g.G.Guard.kept c.advance.new.guard in
    let afterwards = g.G.Guard.entry c.advance.new.guard in
    rw c.stepped.ensures (subst (λ (r : Rules g.G.Guard.Kept g.G.Guard.Entry). WhereWent (IsEngine later afterwards g.G.Guard.mark r c.advance.new.m) c.in_ok-came.came)
    (sym c.advance.ensures.rules)
    (engine_again kept later entry afterwards g.G.Guard.mark rules c.args.machine.now c.advance.new.m c.in_ok-came.came c.guard_laws.ensures.step c.states_laws.ensures.step
    c.advance.ensures.keeps c.advance.ensures.marks c.requires.ready c.in_ok-came.ensures.answered c.in_ok-came.ensures.fixed c.in_ok-came.ensures.ready))

pub returns-clause-same : goal.returns-clause-same
returns-clause-same g c =
    same_steps (g.G.Guard.rules c.args.guard.now) (g.G.Guard.rules c.advance.new.guard) c.args.machine.now c.advance.new.m c.advance.ensures.rules
    c.in_ok-came.ensures.fixed

pub returns-clause-rules : goal.returns-clause-rules
returns-clause-rules g c = c.advance.ensures.rules

pub returns-clause-keeps : goal.returns-clause-keeps
returns-clause-keeps g c = c.advance.ensures.keeps

pub returns-clause-marks : goal.returns-clause-marks
returns-clause-marks g c = c.advance.ensures.marks

pub returns-clause-quiet : goal.returns-clause-quiet
returns-clause-quiet g c = c.advance.ensures.quiet

pub returns-in_err-came-clause-rules : goal.returns-in_err-came-clause-rules
returns-in_err-came-clause-rules g c = c.advance.ensures.rules

pub returns-in_err-came-clause-keeps : goal.returns-in_err-came-clause-keeps
returns-in_err-came-clause-keeps g c = c.advance.ensures.keeps

pub returns-in_err-came-clause-marks : goal.returns-in_err-came-clause-marks
returns-in_err-came-clause-marks g c = c.advance.ensures.marks

pub returns-in_err-came-clause-quiet : goal.returns-in_err-came-clause-quiet
returns-in_err-came-clause-quiet g c = c.advance.ensures.quiet

pub returns-clause-once : goal.returns-clause-once
returns-clause-once g c = c.in_ok-came.ensures.once
