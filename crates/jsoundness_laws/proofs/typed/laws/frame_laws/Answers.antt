use Rattle.jsoundness_laws.proofs.TypedProofs.Straights.{straight_does}
use Rattle.jsoundness_laws.proofs.TypedProofs.FrameSubsumption.{suits_wider}
use Rattle.jsoundness_laws.proofs.typed.laws.frame_laws.Goals as goal

pub returns-clause-straight : goal.returns-clause-straight
returns-clause-straight g c = straight_does _ _

pub returns-clause-wider : goal.returns-clause-wider
returns-clause-wider g c = suits_wider _ _
