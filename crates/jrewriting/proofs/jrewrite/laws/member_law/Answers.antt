use Rattle.jrewriting.proofs.JrewriteProofs.MemberPhase.{members_stay}
use Rattle.jrewriting.proofs.jrewrite.laws.member_law.Goals as goal

pub returns : goal.returns
returns g p is typed none = members_stay p is typed none
