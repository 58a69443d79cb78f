use Rattle.jresolution.proofs.JusesProofs.MemberResolution.{member_resolved}
use Rattle.jresolution.proofs.juses.laws.member_law.Goals as goal

pub returns : goal.returns
returns c = member_resolved
