use Rattle.std.proofs.Common.{None, Some}
use Rattle.jlib.specs.declared.calls.LibCall.TheVariants as calls
use Rattle.jguard.proofs.SingleAsks.{asked_nothing}
use Rattle.jstepping.specs.jcore.AnsweredCalls.{asked_of}
use Rattle.jcalling.proofs.JcallcheckProofs.CheckAnswers.{found_as, nothing_answered}
use Rattle.jcalling.proofs.jcallcheck.calling.call_kept_check.Goals as goal

pub returns-in-None-clause-answered : goal.returns-in-None-clause-answered
returns-in-None-clause-answered g c f runs =
    let m = c.args.m.now in
    let found = found_as m calls.ContextCheck c.args.count c.kept_check_of.result None c.in-None.is c.kept_check_of.ensures in
    nothing_answered _ _ _ _ _ m f calls.ContextCheck c.args.count runs c.check_laws.ensures.nothing (found f runs)

pub check_for-requires-clause-found : goal.check_for-requires-clause-found
check_for-requires-clause-found g c =
    found_as c.args.m.now calls.ContextCheck c.args.count c.kept_check_of.result (Some c.in-Some.one) c.in-Some.is c.kept_check_of.ensures

pub returns-in-None-clause-once : goal.returns-in-None-clause-once
returns-in-None-clause-once g c f runs =
    let m = c.args.m.now in
    let found = found_as m calls.ContextCheck c.args.count c.kept_check_of.result None c.in-None.is c.kept_check_of.ensures in
    asked_nothing g.G.Guard.asked c.args.guard.now (asked_of m f calls.ContextCheck c.args.count) (found f runs).asked
