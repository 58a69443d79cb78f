use Rattle.jlibcalls.specs.declared.jcontexts.wanting.Privileging.TheVariants as wants
use Rattle.jguard.proofs.SingleAsks.{asked_nothing}
use Rattle.jstepping.specs.jcore.AnsweredCalls.{asked_of}
use Rattle.jcalling.proofs.JcallcontextProofs.CallAnswers.{none_answered}
use Rattle.jcalling.proofs.JcallcontextProofs.ContextRequests.{null_answered, wanted_as}
use Rattle.jcalling.proofs.jcallcontext.privileging.call_privileged.Goals as goal

pub returns-in-Stuck-clause-answered : goal.returns-in-Stuck-clause-answered
returns-in-Stuck-clause-answered g c =
    let m = c.args.m.now in
    none_answered _ _ _ _ _ m c.args.call c.args.count c.check_laws.ensures.nothing
    (wanted_as m c.args.call c.args.count c.in_ok-found.found wants.Stuck c.in-Stuck.is c.in_ok-found.ensures)

pub returns-in_ok-came-in-Null-clause-answered : goal.returns-in_ok-came-in-Null-clause-answered
returns-in_ok-came-in-Null-clause-answered g c =
    let m = c.args.m.now in
    null_answered _ _ _ _ _ m c.fail_call.new.m c.args.call c.args.count c.in_ok-came-in-Null.came
    (wanted_as m c.args.call c.args.count c.in_ok-found.found wants.Null c.in-Null.is c.in_ok-found.ensures) c.in_ok-came-in-Null.ensures.comes

pub run_wanted-requires-clause-found : goal.run_wanted-requires-clause-found
run_wanted-requires-clause-found g c =
    wanted_as c.args.m.now c.args.call c.args.count c.in_ok-found.found (wants.Asks c.in-Asks.wanted) c.in-Asks.is c.in_ok-found.ensures

pub returns-in-Stuck-clause-once : goal.returns-in-Stuck-clause-once
returns-in-Stuck-clause-once g c f runs =
    let m = c.args.m.now in
    let found = wanted_as m c.args.call c.args.count c.in_ok-found.found wants.Stuck c.in-Stuck.is c.in_ok-found.ensures in
    asked_nothing g.G.Guard.asked c.args.guard.now (asked_of m f c.args.call c.args.count) (found f runs).asked

pub returns-in_ok-came-in-Null-clause-once : goal.returns-in_ok-came-in-Null-clause-once
returns-in_ok-came-in-Null-clause-once g c f runs =
    let m = c.args.m.now in
    let found = wanted_as m c.args.call c.args.count c.in_ok-found.found wants.Null c.in-Null.is c.in_ok-found.ensures in
    asked_nothing g.G.Guard.asked c.args.guard.now (asked_of m f c.args.call c.args.count) (found f runs).asked
