use Rattle.jrewriting.proofs.JmoveclassLawsProofs.Methods.{methods_good}
use Rattle.jrewriting.proofs.jmoveclass_laws.laws.method_law.Goals as goal

pub returns : goal.returns
returns g p domain c k = methods_good p domain c k
