use Rattle.jsoundness_laws.proofs.TypedProofs.StraightSuccessors.{straight_leads}
use Rattle.jsoundness_laws.proofs.typed.laws.leading_law.Goals as goal

pub returns : goal.returns
returns g c = straight_leads _ _
