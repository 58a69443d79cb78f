use Rattle.jlinking.proofs.JmembersProofs.MemberTests.{again_none, again_some}
use Rattle.jlinking.proofs.jmembers.class_texts.ClassTexts.again_test.Goals as goal

pub returns-then-branch : goal.returns-then-branch
returns-then-branch c = λ before has.
    let r = c.in_ok-meet.ensures before has in
    (again_none c.args.self.now.class before c.args.member.now c.in_ok-meet.field-0 r.0 c.if-branch.true, r.1)

pub returns : goal.returns
returns c = λ before has.
    let r = c.in_ok-meet.ensures before has in
    (again_some c.args.self.now.class before c.args.member.now c.in_ok-meet.field-0 r.0 c.if-branch.false, r.1)
