use Rattle.std.proofs.Common.{None, Some}
use Rattle.jsemantics.specs.jmachine.AccessQueries.{Snapshots}
use Rattle.jguard.proofs.SingleAsks.{asked_nothing, asked_once}
use Rattle.jstepping.specs.jcore.AnsweredCalls.{asked_of}
use Rattle.jcalling.proofs.JcallcontextProofs.CallAnswers.{known_snapshot, none_answered, snapshot_answered, snapshot_as, snapshot_quiet}
use Rattle.jcalling.proofs.jcallcontext.snapping.call_snapshot.Goals as goal

pub returns-in-None-clause-answered : goal.returns-in-None-clause-answered
returns-in-None-clause-answered g c =
    let m = c.args.m.now in
    none_answered _ _ _ _ _ m c.args.call c.args.count c.check_laws.ensures.nothing
    (snapshot_as m c.args.call c.args.count c.snapshot_found.result None c.in-None.is c.snapshot_found.ensures)

pub ask_kept-requires : goal.ask_kept-requires
ask_kept-requires g c =
    let m = c.args.m.now in
    let found = snapshot_as m c.args.call c.args.count c.snapshot_found.result (Some c.in-Some.ctx) c.in-Some.is c.snapshot_found.ensures in
    record { known = known_snapshot _ _ m c.args.count c.requires.calling c.args.call c.in-Some.ctx found c.requires.known }

pub returns-in_ok-came-in-Some-clause-answered : goal.returns-in_ok-came-in-Some-clause-answered
returns-in_ok-came-in-Some-clause-answered g c =
    let m = c.args.m.now in
    let found = snapshot_as m c.args.call c.args.count c.snapshot_found.result (Some c.in-Some.ctx) c.in-Some.is c.snapshot_found.ensures in
    snapshot_answered _ _ _ _ _ m c.give_snapshot.new.m c.args.call c.args.count c.in_ok-came-in-Some.came c.in-Some.ctx c.in_ok-number-in-Some.number found
    c.in_ok-number-in-Some.ensures.answer c.in_ok-came-in-Some.ensures.comes

pub returns-in_err-number-in-Some-clause-quiet : goal.returns-in_err-number-in-Some-clause-quiet
returns-in_err-number-in-Some-clause-quiet g c =
    let m = c.args.m.now in
    let found = snapshot_as m c.args.call c.args.count c.snapshot_found.result (Some c.in-Some.ctx) c.in-Some.is c.snapshot_found.ensures in
    snapshot_quiet m c.args.count _ _ c.args.call c.in-Some.ctx found

pub returns-in_err-came-in-Some-clause-quiet : goal.returns-in_err-came-in-Some-clause-quiet
returns-in_err-came-in-Some-clause-quiet g c =
    let m = c.args.m.now in
    let found = snapshot_as m c.args.call c.args.count c.snapshot_found.result (Some c.in-Some.ctx) c.in-Some.is c.snapshot_found.ensures in
    snapshot_quiet m c.args.count _ _ c.args.call c.in-Some.ctx found

pub returns-in_ok-came-in-Some-clause-quiet : goal.returns-in_ok-came-in-Some-clause-quiet
returns-in_ok-came-in-Some-clause-quiet g c =
    let m = c.args.m.now in
    let found = snapshot_as m c.args.call c.args.count c.snapshot_found.result (Some c.in-Some.ctx) c.in-Some.is c.snapshot_found.ensures in
    snapshot_quiet m c.args.count _ _ c.args.call c.in-Some.ctx found

pub returns-in-None-clause-once : goal.returns-in-None-clause-once
returns-in-None-clause-once g c f runs =
    let m = c.args.m.now in
    let found = snapshot_as m c.args.call c.args.count c.snapshot_found.result None c.in-None.is c.snapshot_found.ensures in
    asked_nothing g.G.Guard.asked c.args.guard.now (asked_of m f c.args.call c.args.count) (found f runs).asked

pub returns-in_ok-came-in-Some-clause-once : goal.returns-in_ok-came-in-Some-clause-once
returns-in_ok-came-in-Some-clause-once g c f runs =
    let m = c.args.m.now in
    let found = snapshot_as m c.args.call c.args.count c.snapshot_found.result (Some c.in-Some.ctx) c.in-Some.is c.snapshot_found.ensures in
    asked_once g.G.Guard.asked c.args.guard.now (asked_of m f c.args.call c.args.count) c.ask_kept.new.guard (Snapshots c.in-Some.ctx) (found f runs).asked
    c.in_ok-number-in-Some.ensures.once
