use Rattle.jrewriting.proofs.JrewriteProofs.ReferencePhase.{links_stay}
use Rattle.jrewriting.proofs.jrewrite.laws.link_law.Goals as goal

pub returns : goal.returns
returns g p is typed none = links_stay p is typed none
