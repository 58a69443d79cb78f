use Rattle.jmoved_laws.proofs.TypesProofs.MovedMethods.{types_stay}
use Rattle.jmoved_laws.proofs.types.laws.types_law.Goals as goal

pub returns : goal.returns
returns c = types_stay
