use Rattle.jrewriting.proofs.JmoveLawsProofs.BranchDistances.{near}
use Rattle.jrewriting.proofs.jmove_laws.laws.distance_laws.Goals as goal

pub returns : goal.returns
returns g = record { near = near }
