use Rattle.std.proofs.Common.{None, Some}
use Rattle.jlib.specs.declared.calls.LibCall.TheVariants as calls
use Rattle.jlib.specs.declared.calls.RtCall.TheVariants as rt
use Rattle.jsemantics.specs.jmachine.AccessQueries.{Enters}
use Rattle.jguard.proofs.SingleAsks.{asked_nothing, asked_once}
use Rattle.jstepping.specs.jcore.AnsweredCalls.{asked_of}
use Rattle.jcalling.proofs.JcallcontextProofs.CallAnswers.{entering_answered, entering_as, entering_quiet, known_entering, none_answered}
use Rattle.jcalling.proofs.jcallcontext.entering.call_enter.Goals as goal

pub returns-in-None-clause-answered : goal.returns-in-None-clause-answered
returns-in-None-clause-answered g c =
    let m = c.args.m.now in
    none_answered _ _ _ _ _ m (calls.Rt rt.Enter) c.args.count c.check_laws.ensures.nothing
    (entering_as m c.args.count c.entering_found.result None c.in-None.is c.entering_found.ensures)

pub ask_entered-requires : goal.ask_entered-requires
ask_entered-requires g c =
    let m = c.args.m.now in
    let found = entering_as m c.args.count c.entering_found.result (Some c.in-Some.one) c.in-Some.is c.entering_found.ensures in
    record { known = known_entering _ _ m c.args.count c.requires.calling c.in-Some.one found c.requires.known }

pub returns-in_ok-came-in-Some-clause-answered : goal.returns-in_ok-came-in-Some-clause-answered
returns-in_ok-came-in-Some-clause-answered g c =
    let m = c.args.m.now in
    let found = entering_as m c.args.count c.entering_found.result (Some c.in-Some.one) c.in-Some.is c.entering_found.ensures in
    entering_answered _ _ _ _ _ m c.give_context.new.m c.args.count c.in_ok-came-in-Some.came c.in-Some.one c.in_ok-number-in-Some.number found
    c.in_ok-number-in-Some.ensures.answer c.in_ok-came-in-Some.ensures.comes

pub returns-in_err-number-in-Some-clause-quiet : goal.returns-in_err-number-in-Some-clause-quiet
returns-in_err-number-in-Some-clause-quiet g c =
    let m = c.args.m.now in
    let found = entering_as m c.args.count c.entering_found.result (Some c.in-Some.one) c.in-Some.is c.entering_found.ensures in
    entering_quiet m c.args.count _ _ c.in-Some.one found

pub returns-in_err-came-in-Some-clause-quiet : goal.returns-in_err-came-in-Some-clause-quiet
returns-in_err-came-in-Some-clause-quiet g c =
    let m = c.args.m.now in
    let found = entering_as m c.args.count c.entering_found.result (Some c.in-Some.one) c.in-Some.is c.entering_found.ensures in
    entering_quiet m c.args.count _ _ c.in-Some.one found

pub returns-in_ok-came-in-Some-clause-quiet : goal.returns-in_ok-came-in-Some-clause-quiet
returns-in_ok-came-in-Some-clause-quiet g c =
    let m = c.args.m.now in
    let found = entering_as m c.args.count c.entering_found.result (Some c.in-Some.one) c.in-Some.is c.entering_found.ensures in
    entering_quiet m c.args.count _ _ c.in-Some.one found

pub returns-in-None-clause-once : goal.returns-in-None-clause-once
returns-in-None-clause-once g c f runs =
    let m = c.args.m.now in
    let found = entering_as m c.args.count c.entering_found.result None c.in-None.is c.entering_found.ensures in
    asked_nothing g.G.Guard.asked c.args.guard.now (asked_of m f (calls.Rt rt.Enter) c.args.count) (found f runs).asked

pub returns-in_ok-came-in-Some-clause-once : goal.returns-in_ok-came-in-Some-clause-once
returns-in_ok-came-in-Some-clause-once g c f runs =
    let m = c.args.m.now in
    let one = c.in-Some.one in
    let found = entering_as m c.args.count c.entering_found.result (Some one) c.in-Some.is c.entering_found.ensures in
    asked_once g.G.Guard.asked c.args.guard.now (asked_of m f (calls.Rt rt.Enter) c.args.count) c.ask_entered.new.guard (Enters one.ctx one.domain) (found f runs).asked
    c.in_ok-number-in-Some.ensures.once
