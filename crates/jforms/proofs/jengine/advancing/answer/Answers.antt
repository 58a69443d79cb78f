use Rattle.std.proofs.Common.{◌∙◌, sym}
use Rattle.jguard.proofs.SingleAsks.{asked_alike, asked_nothing}
use Rattle.jcalling.specs.jexecute.ThreadSteps.{CameTo, StandsAt}
use Rattle.jforms.specs.jtables.Engines.{asks_next}
use Rattle.jforms.proofs.JtablesProofs.GuardQuestions.{answers_none, carry_then}
use Rattle.jforms.proofs.JengineProofs.StepPremises.{answered_at, known_at, tells_at}
use Rattle.jforms.proofs.jengine.advancing.answer.Goals as goal

pub returns-in-Done-clause-answered : goal.returns-in-Done-clause-answered
returns-in-Done-clause-answered g c before executes fixed =
    let m = before in
    let n = c.args.m.now in
    let done : CameTo m c.in-Done.came n = rw c.in-Done.is at executes in
    answers_none _ _ _ _ _ m n _ _ c.in-Done.came done.silent done.comes

pub returns-in-Done-clause-ready : goal.returns-in-Done-clause-ready
returns-in-Done-clause-ready g c =
    let done : CameTo c.requires.before c.in-Done.came c.args.m.now = rw c.in-Done.is at c.requires.executes in
    done.ready

pub call_library-requires-clause-calling : goal.call_library-requires-clause-calling
call_library-requires-clause-calling g c =
    let at : StandsAt c.requires.before c.in-Asks.call c.in-Asks.count c.args.m.now = rw c.in-Asks.is at c.requires.executes in
    at.calling

pub call_library-requires-clause-carry : goal.call_library-requires-clause-carry
call_library-requires-clause-carry g c = carry_then g.G.Guard.mark c.requires.before c.args.m.now c.requires.fixed c.requires.carry

pub call_library-requires-clause-known : goal.call_library-requires-clause-known
call_library-requires-clause-known g c =
    let at : StandsAt c.requires.before c.in-Asks.call c.in-Asks.count c.args.m.now = rw c.in-Asks.is at c.requires.executes in
    known_at c.requires.before c.args.m.now c.in-Asks.call c.in-Asks.count at _ _ c.requires.known

pub call_library-requires-clause-told : goal.call_library-requires-clause-told
call_library-requires-clause-told g c =
    let at : StandsAt c.requires.before c.in-Asks.call c.in-Asks.count c.args.m.now = rw c.in-Asks.is at c.requires.executes in
    tells_at c.requires.before c.args.m.now c.in-Asks.call c.in-Asks.count at

pub returns-in_ok-came-in-Asks-clause-answered : goal.returns-in_ok-came-in-Asks-clause-answered
returns-in_ok-came-in-Asks-clause-answered g c before executes fixed =
    let at : StandsAt before c.in-Asks.call c.in-Asks.count c.args.m.now = rw c.in-Asks.is at executes in
    answered_at before c.args.m.now c.in-Asks.call c.in-Asks.count at _ _ _ _ _ c.call_library.new.m c.in_ok-came-in-Asks.came fixed
    (c.in_ok-came-in-Asks.ensures.answered at.calling.frames at.calling.runs)

pub returns-in_err-came-in-Asks-clause-quiet : goal.returns-in_err-came-in-Asks-clause-quiet
returns-in_err-came-in-Asks-clause-quiet g c before executes none =
    let at : StandsAt before c.in-Asks.call c.in-Asks.count c.args.m.now = rw c.in-Asks.is at executes in
    c.call_library.ensures.quiet at.calling.frames at.calling.runs (sym at.asked ∙ none)

pub returns-in_ok-came-in-Asks-clause-quiet : goal.returns-in_ok-came-in-Asks-clause-quiet
returns-in_ok-came-in-Asks-clause-quiet g c before executes none =
    let at : StandsAt before c.in-Asks.call c.in-Asks.count c.args.m.now = rw c.in-Asks.is at executes in
    c.call_library.ensures.quiet at.calling.frames at.calling.runs (sym at.asked ∙ none)

pub returns-in-Done-clause-once : goal.returns-in-Done-clause-once
returns-in-Done-clause-once g c before executes =
    let m = before in
    let done : CameTo m c.in-Done.came c.args.m.now = rw c.in-Done.is at executes in
    asked_nothing g.G.Guard.asked c.args.guard.now (asks_next m) done.silent

pub returns-in_ok-came-in-Asks-clause-once : goal.returns-in_ok-came-in-Asks-clause-once
returns-in_ok-came-in-Asks-clause-once g c before executes =
    let m = before in
    let at : StandsAt m c.in-Asks.call c.in-Asks.count c.args.m.now = rw c.in-Asks.is at executes in
    asked_alike g.G.Guard.asked c.args.guard.now (asks_next m) c.call_library.new.guard _ at.asked
    (c.in_ok-came-in-Asks.ensures.once at.calling.frames at.calling.runs)
