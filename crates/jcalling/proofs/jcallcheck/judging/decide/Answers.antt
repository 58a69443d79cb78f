use Rattle.std.proofs.Common.{subst}
use Rattle.jlibcalls.specs.declared.jchecks.judging.Judged.{Judged}
use Rattle.jcalling.proofs.JcallcheckProofs.CheckOutcomes.{deny_does, fixed_on, grant_does, handled_stand, is_ready, stays_fixed}
use Rattle.jcalling.specs.jcallcheck.CheckOutcomes.{JudgedOn}
use Rattle.jcalling.proofs.jcallcheck.judging.decide.Goals as goal

pub returns-in-Granted-clause-comes : goal.returns-in-Granted-clause-comes
returns-in-Granted-clause-comes g c =
    let m = c.args.m.now in
    let mid = c.judge_here.new.m in
    let on = subst (λ (w : Judged). JudgedOn m c.args.asked c.args.verdict c.args.count w mid) c.in-Granted.is c.in_ok-way.ensures in
    grant_does c.guest_laws.ensures m c.requires.calling.machine.guests c.args.count c.args.asked c.args.verdict c.in_ok-told.told mid c.in_ok-told.ensures on

pub returns-in-Granted-clause-ready : goal.returns-in-Granted-clause-ready
returns-in-Granted-clause-ready g c = is_ready c.args.m.now c.judge_here.new.m c.in_ok-way.ensures.change

pub returns-in-Granted-clause-fixed : goal.returns-in-Granted-clause-fixed
returns-in-Granted-clause-fixed g c = stays_fixed c.args.m.now c.judge_here.new.m c.in_ok-way.ensures.change

pub settle_raised-requires-clause-machine : goal.settle_raised-requires-clause-machine
settle_raised-requires-clause-machine g c = c.in_ok-way.ensures.change.machine

pub settle_raised-requires-clause-lives : goal.settle_raised-requires-clause-lives
settle_raised-requires-clause-lives g c = c.in_ok-way.ensures.change.lives

pub settle_raised-requires-clause-stand : goal.settle_raised-requires-clause-stand
settle_raised-requires-clause-stand g c = handled_stand c.args.m.now c.judge_here.new.m c.in_ok-way.ensures.change c.in-Denied.way

pub returns-in_ok-done-in-Denied-clause-comes : goal.returns-in_ok-done-in-Denied-clause-comes
returns-in_ok-done-in-Denied-clause-comes g c =
    let m = c.args.m.now in
    let mid = c.judge_here.new.m in
    let on = subst (λ (w : Judged). JudgedOn m c.args.asked c.args.verdict c.args.count w mid) c.in-Denied.is c.in_ok-way.ensures in
    deny_does c.guest_laws.ensures m c.requires.calling.machine.guests c.args.count c.args.asked c.args.verdict c.in_ok-told.told mid c.in_ok-told.ensures
    c.in-Denied.way c.in_ok-done-in-Denied.done c.settle_raised.new.m on c.in_ok-done-in-Denied.ensures.comes

pub returns-in_ok-done-in-Denied-clause-fixed : goal.returns-in_ok-done-in-Denied-clause-fixed
returns-in_ok-done-in-Denied-clause-fixed g c = fixed_on c.args.m.now c.judge_here.new.m c.settle_raised.new.m c.in_ok-way.ensures.change c.in_ok-done-in-Denied.ensures.fixed
