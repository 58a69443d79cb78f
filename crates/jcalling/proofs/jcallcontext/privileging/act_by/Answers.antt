use Rattle.jserving.specs.declared.jinvoke.faces.Target.TheVariants as ways
use Rattle.jguard.proofs.SingleAsks.{asked_nothing, asked_once}
use Rattle.jstepping.specs.jcore.AnsweredCalls.{asked_of}
use Rattle.jstepping.specs.jcore.MachineInvariants.{classes_of}
use Rattle.jcalling.specs.jcallcontext.ContextRequests.{privilege_of}
use Rattle.jcalling.proofs.JcallcontextProofs.ContextRequests.{fails_answered, fails_silent, known_privilege, on_as, privilege_asked, privilege_quiet}
use Rattle.jcalling.proofs.JcallcontextProofs.ContextRequests.{pushes_answered, stuck_answered, stuck_silent, within_as}
use Rattle.jcalling.proofs.jcallcontext.privileging.act_by.Goals as goal

pub returns-in-Stuck-clause-answered : goal.returns-in-Stuck-clause-answered
returns-in-Stuck-clause-answered g c =
    let m = c.args.m.now in
    stuck_answered _ _ _ _ _ m c.args.call c.args.count c.args.wanted _ c.requires.found c.requires.marks c.check_laws.ensures.nothing
    (on_as m c.args.wanted.action c.args.target ways.Stuck c.in-Stuck.is c.requires.target)

pub returns-in-Fails-clause-answered : goal.returns-in-Fails-clause-answered
returns-in-Fails-clause-answered g c =
    let m = c.args.m.now in
    fails_answered _ _ _ _ _ m c.fail_call.new.m c.args.call c.args.count c.in_ok-came-in-Fails.came c.args.wanted _ c.requires.found c.requires.marks
    c.in-Fails.class (on_as m c.args.wanted.action c.args.target (ways.Fails c.in-Fails.class) c.in-Fails.is c.requires.target) c.in_ok-came-in-Fails.ensures.comes

pub ask_allowed-requires : goal.ask_allowed-requires
ask_allowed-requires g c =
    let m = c.args.m.now in
    record {
      known = known_privilege _ _ m c.args.call c.args.count c.args.wanted _ c.in-Pushes.callee c.requires.found c.requires.marks
          (on_as m c.args.wanted.action c.args.target (ways.Pushes c.in-Pushes.callee) c.in-Pushes.is c.requires.target) c.requires.calling c.requires.known;
    }

pub push_action-requires-clause-within : goal.push_action-requires-clause-within
push_action-requires-clause-within g c =
    within_as (classes_of c.args.m.now) c.args.target (ways.Pushes c.in-Pushes.callee) c.in-Pushes.is c.requires.within

pub returns-clause-answered : goal.returns-clause-answered
returns-clause-answered g c =
    let m = c.args.m.now in
    let x = c.in_ok-marked-in-Pushes.marked in
    pushes_answered _ _ _ _ _ m c.push_action.new.m c.args.call c.args.count c.in_ok-came-in-Pushes.came c.args.wanted _ c.requires.found c.requires.marks
    c.in-Pushes.callee x.caller x.ctx (on_as m c.args.wanted.action c.args.target (ways.Pushes c.in-Pushes.callee) c.in-Pushes.is c.requires.target)
    c.in_ok-marked-in-Pushes.ensures.answer c.in_ok-came-in-Pushes.ensures.comes

pub returns-in_err-marked-in-Pushes-clause-quiet : goal.returns-in_err-marked-in-Pushes-clause-quiet
returns-in_err-marked-in-Pushes-clause-quiet g c =
    let m = c.args.m.now in
    privilege_quiet m c.args.call c.args.count _ _ c.args.wanted _ c.in-Pushes.callee c.requires.found c.requires.marks
    (on_as m c.args.wanted.action c.args.target (ways.Pushes c.in-Pushes.callee) c.in-Pushes.is c.requires.target)

pub returns-in_err-came-in-Pushes-clause-quiet : goal.returns-in_err-came-in-Pushes-clause-quiet
returns-in_err-came-in-Pushes-clause-quiet g c =
    let m = c.args.m.now in
    privilege_quiet m c.args.call c.args.count _ _ c.args.wanted _ c.in-Pushes.callee c.requires.found c.requires.marks
    (on_as m c.args.wanted.action c.args.target (ways.Pushes c.in-Pushes.callee) c.in-Pushes.is c.requires.target)

pub returns-clause-quiet : goal.returns-clause-quiet
returns-clause-quiet g c =
    let m = c.args.m.now in
    privilege_quiet m c.args.call c.args.count _ _ c.args.wanted _ c.in-Pushes.callee c.requires.found c.requires.marks
    (on_as m c.args.wanted.action c.args.target (ways.Pushes c.in-Pushes.callee) c.in-Pushes.is c.requires.target)

pub returns-in-Stuck-clause-once : goal.returns-in-Stuck-clause-once
returns-in-Stuck-clause-once g c f runs =
    let m = c.args.m.now in
    asked_nothing g.G.Guard.asked c.args.guard.now (asked_of m f c.args.call c.args.count)
    (stuck_silent m c.args.call c.args.count c.args.wanted _ c.requires.found c.requires.marks
    (on_as m c.args.wanted.action c.args.target ways.Stuck c.in-Stuck.is c.requires.target) f runs)

pub returns-in-Fails-clause-once : goal.returns-in-Fails-clause-once
returns-in-Fails-clause-once g c f runs =
    let m = c.args.m.now in
    asked_nothing g.G.Guard.asked c.args.guard.now (asked_of m f c.args.call c.args.count)
    (fails_silent m c.args.call c.args.count c.args.wanted _ c.requires.found c.requires.marks c.in-Fails.class
    (on_as m c.args.wanted.action c.args.target (ways.Fails c.in-Fails.class) c.in-Fails.is c.requires.target) f runs)

pub returns-clause-once : goal.returns-clause-once
returns-clause-once g c f runs =
    let m = c.args.m.now in
    asked_once g.G.Guard.asked c.args.guard.now (asked_of m f c.args.call c.args.count) c.ask_allowed.new.guard (privilege_of c.args.wanted)
    (privilege_asked m c.args.call c.args.count c.args.wanted _ c.requires.found c.requires.marks c.in-Pushes.callee
    (on_as m c.args.wanted.action c.args.target (ways.Pushes c.in-Pushes.callee) c.in-Pushes.is c.requires.target) f runs)
    c.in_ok-marked-in-Pushes.ensures.once
