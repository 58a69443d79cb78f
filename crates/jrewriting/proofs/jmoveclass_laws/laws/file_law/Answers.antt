use Rattle.jrewriting.proofs.JmoveclassLawsProofs.ClassTail.{file_from}
use Rattle.jrewriting.proofs.jmoveclass_laws.laws.file_law.Goals as goal

pub returns : goal.returns
returns g p domain c k = file_from p domain c k
