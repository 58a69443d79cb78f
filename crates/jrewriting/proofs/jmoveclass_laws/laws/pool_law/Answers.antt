use Rattle.jrewriting.proofs.JmoveclassLawsProofs.PoolFormat.{head_stays}
use Rattle.jrewriting.proofs.jmoveclass_laws.laws.pool_law.Goals as goal

pub returns : goal.returns
returns g p domain c k = head_stays p domain c k
