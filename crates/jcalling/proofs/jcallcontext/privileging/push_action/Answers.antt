use Rattle.jlibcalls.specs.declared.jcontexts.acting.Acted.TheVariants as ways
use Rattle.jlibcalls.specs.jcontexts.ActionCalls.{CallsAction}
use Rattle.jstepping.specs.jcore.MachineInvariants.{classes_of}
use Rattle.jcalling.proofs.JcallcontextProofs.CallOutcomes.{acts_as, begun_told, codeless_comes, few_of, framed_ready, of_frames, stand_of, stands_as}
use Rattle.jcalling.proofs.jcallcontext.privileging.push_action.Goals as goal

pub act-requires : goal.act-requires
act-requires g c = record { few = few_of c.args.m.now c.args.count c.requires.calling _ c.in-Some.is }

pub returns-in-Begun-clause-comes : goal.returns-in-Begun-clause-comes
returns-in-Begun-clause-comes g c =
    let m = c.args.m.now in
    let h = c.act.new.frames in
    let x = c.args.marked in
    begun_told c.machine_laws.ensures.behind m c.args.count h c.args.callee c.args.action x.caller x.ctx c.new.result c.new.ensures
    (of_frames (λ f. CallsAction c.args.callee c.args.action x.caller x.ctx c.args.count f ways.Begun h) m.guests.running.frames _ c.in-Some.is
    (acts_as c.args.callee c.args.action x.caller x.ctx c.args.count _ h c.in_ok-acted-in-Some.acted ways.Begun c.in-Begun.is c.in_ok-acted-in-Some.ensures.row))

pub returns-in-Begun-clause-ready : goal.returns-in-Begun-clause-ready
returns-in-Begun-clause-ready g c =
    let m = c.args.m.now in
    let h = c.act.new.frames in
    let stand = stands_as c.args.callee _ h c.in_ok-acted-in-Some.acted ways.Begun c.in-Begun.is c.in_ok-acted-in-Some.ensures.stand in
    framed_ready m c.args.count c.requires.calling h c.machine_laws.ensures.machine
    (stand (classes_of m) c.requires.within (stand_of m c.args.count c.requires.calling _ c.in-Some.is))

pub returns-in-Stuck-clause-comes : goal.returns-in-Stuck-clause-comes
returns-in-Stuck-clause-comes g c =
    let m = c.args.m.now in
    let h = c.act.new.frames in
    let x = c.args.marked in
    codeless_comes c.machine_laws.ensures.behind m c.args.count h c.args.callee c.args.action x.caller x.ctx m
    (of_frames (λ f. CallsAction c.args.callee c.args.action x.caller x.ctx c.args.count f ways.Stuck h) m.guests.running.frames _ c.in-Some.is
    (acts_as c.args.callee c.args.action x.caller x.ctx c.args.count _ h c.in_ok-acted-in-Some.acted ways.Stuck c.in-Stuck.is c.in_ok-acted-in-Some.ensures.row))
