use Rattle.std.proofs.Common.{rules}
use Rattle.std.specs.Prelude.{take}
use Rattle.jsemantics.specs.jmachine.MachineSteps.{site_of}
use Rattle.jlibcalls.specs.jthreading.ThreadLaws.{IsNoInit}
use Rattle.jguard.proofs.SingleAsks.{asked_nothing}
use Rattle.jlib.specs.declared.calls.LibCall.TheVariants as calls
use Rattle.jstepping.specs.jcore.AnsweredCalls.{asked_of}
use Rattle.jstepping.specs.jcore.MachineInvariants.{state_of, store_of}
use Rattle.jcallthread.proofs.ConstructorCalls.{none_answered}
use Rattle.jcallthread.proofs.calling.call_thread.Goals as goal

pub returns-in_ok-done-in_default-clause-answered : goal.returns-in_ok-done-in_default-clause-answered
returns-in_ok-done-in_default-clause-answered g c f frames =
    let m = c.args.m.now in
    let free : IsNoInit c.args.call = search rules in
    let asked =
    c.init_laws.ensures.others m.side (site_of m.calls m.plan.now (state_of m) f.newest f.below) (store_of m) c.args.call (take c.args.count f.newest.operands) free in
    none_answered m c.call_turn.new.m c.args.call c.args.count c.in_ok-done-in_default.done _ _ _ _ _ f asked (c.in_ok-done-in_default.ensures.comes f frames)

pub returns-in_ok-done-in_default-clause-once : goal.returns-in_ok-done-in_default-clause-once
returns-in_ok-done-in_default-clause-once g c f frames =
    let m = c.args.m.now in
    let free : IsNoInit c.args.call = search rules in
    asked_nothing g.G.Guard.asked c.args.guard.now (asked_of m f (calls.Thread c.args.call) c.args.count)
    (c.init_laws.ensures.others m.side (site_of m.calls m.plan.now (state_of m) f.newest f.below) (store_of m) c.args.call (take c.args.count f.newest.operands) free)
