use Rattle.jlinking.proofs.JmembersProofs.MemberSets.{met_again, met_more}
use Rattle.jlinking.proofs.jmembers.class_texts.ClassTexts.meet.Goals as goal

pub returns : goal.returns
returns c = λ before has. (
  met_again c.args.self.now.class before c.args.member.now c.args.met.now c.number.result c.number-2.result c.in_ok-fresh.fresh has c.number.ensures c.number-2.ensures c.in_ok-fresh.ensures.added,
  met_more c.args.self.now.class before c.args.member.now c.args.met.now c.insert.new.self c.number.result c.number-2.result has c.number.ensures c.number-2.ensures c.in_ok-fresh.ensures.updates,
)
