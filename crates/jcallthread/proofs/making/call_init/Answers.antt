use Rattle.jsemantics.specs.jmachine.AccessQueries.{Inherits}
use Rattle.jlib.specs.declared.calls.LibCall.TheVariants as calls
use Rattle.jlib.specs.declared.calls.ThreadCall.TheVariants as threads
use Rattle.jguard.proofs.SingleAsks.{asked_nothing, asked_once}
use Rattle.jstepping.specs.jcore.AnsweredCalls.{asked_of}
use Rattle.jcallthread.proofs.ConstructorCalls.{init_asked, init_asks, init_silent, made_answered, made_ready, stuck_answered}
use Rattle.jcallthread.proofs.ThreadInvariants.{may_call}
use Rattle.jcallthread.proofs.making.call_init.Goals as goal

pub named_by-requires : goal.named_by-requires
named_by-requires g c = record { may = may_call c.args.m.now c.args.count c.requires.calling }

pub ask-requires : goal.ask-requires
ask-requires g c =
    let m = c.args.m.now in
    let f = c.requires.calling.frames in
    let runs = c.requires.calling.runs in
    let given = rw c.in-Some.is at c.named_by.ensures in
    record { known = c.requires.known f runs (Inherits c.in-Some.given.context) (init_asked m c.args.side c.args.count c.init_laws.ensures.asks c.in-Some.given given f runs) }

pub make_thread-requires-clause-given : goal.make_thread-requires-clause-given
make_thread-requires-clause-given g c = rw c.in-Some.is at c.named_by.ensures

pub returns-in_default-clause-answered : goal.returns-in_default-clause-answered
returns-in_default-clause-answered g c f frames =
    let none = rw c.in_default.is at c.named_by.ensures in
    stuck_answered c.args.m.now c.args.side c.args.count _ _ _ _ _ c.init_laws.ensures.nothing c.init_laws.ensures.stuck none f frames

pub returns-clause-answered : goal.returns-clause-answered
returns-clause-answered g c f frames =
    let given = rw c.in-Some.is at c.named_by.ensures in
    made_answered c.args.m.now c.args.side c.args.count _ _ _ _ _ c.init_laws.ensures.asks c.in_ok-kept.kept c.in-Some.given c.make_thread.new.m c.went.result given
    c.in_ok-make_thread.ensures.made c.went.ensures c.in_ok-kept.ensures.answer f frames

pub returns-clause-ready : goal.returns-clause-ready
returns-clause-ready g c =
    made_ready c.args.m.now c.args.side c.args.count c.requires.calling c.in_ok-kept.kept c.in-Some.given c.make_thread.new.m c.went.result
    c.in_ok-make_thread.ensures.made c.went.ensures

pub returns-in_err-kept-clause-quiet : goal.returns-in_err-kept-clause-quiet
returns-in_err-kept-clause-quiet g c f frames none =
    let given = rw c.in-Some.is at c.named_by.ensures in
    absurd (init_asks c.args.m.now c.args.side c.args.count c.init_laws.ensures.asks c.in-Some.given given f frames none)

pub returns-in_err-make_thread-clause-quiet : goal.returns-in_err-make_thread-clause-quiet
returns-in_err-make_thread-clause-quiet g c f frames none =
    let given = rw c.in-Some.is at c.named_by.ensures in
    absurd (init_asks c.args.m.now c.args.side c.args.count c.init_laws.ensures.asks c.in-Some.given given f frames none)

pub returns-clause-quiet : goal.returns-clause-quiet
returns-clause-quiet g c f frames none =
    let given = rw c.in-Some.is at c.named_by.ensures in
    absurd (init_asks c.args.m.now c.args.side c.args.count c.init_laws.ensures.asks c.in-Some.given given f frames none)

pub returns-in_default-clause-once : goal.returns-in_default-clause-once
returns-in_default-clause-once g c f frames =
    let m = c.args.m.now in
    let none = rw c.in_default.is at c.named_by.ensures in
    asked_nothing g.G.Guard.asked c.args.guard.now (asked_of m f (calls.Thread (threads.Init c.args.side)) c.args.count)
    (init_silent m c.args.side c.args.count c.init_laws.ensures.nothing none f frames)

pub returns-clause-once : goal.returns-clause-once
returns-clause-once g c f frames =
    let m = c.args.m.now in
    let given = rw c.in-Some.is at c.named_by.ensures in
    asked_once g.G.Guard.asked c.args.guard.now (asked_of m f (calls.Thread (threads.Init c.args.side)) c.args.count) c.ask.new.guard (Inherits c.in-Some.given.context)
    (init_asked m c.args.side c.args.count c.init_laws.ensures.asks c.in-Some.given given f frames) c.in_ok-kept.ensures.once
