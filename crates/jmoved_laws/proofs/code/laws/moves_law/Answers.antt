use Rattle.jmoved_laws.proofs.CodeProofs.MovedPrograms.{moves}
use Rattle.jmoved_laws.proofs.code.laws.moves_law.Goals as goal

pub returns : goal.returns
returns g p is typed free = moves p is typed free
