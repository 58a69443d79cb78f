use Rattle.jmoved_laws.proofs.TypesProofs.NewSubstitution.{goes_along}
use Rattle.jmoved_laws.proofs.types.laws.place_law.Goals as goal

pub returns : goal.returns
returns g c = goes_along _
