use Rattle.jrewriting.proofs.JrewriteProofs.ReferencePhase.{code_stays}
use Rattle.jrewriting.proofs.jrewrite.laws.code_law.Goals as goal

pub returns : goal.returns
returns g p is typed none = code_stays p is typed none
