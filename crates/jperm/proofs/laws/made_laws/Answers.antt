use Rattle.jperm.proofs.ActionNames.{made_asks}
use Rattle.jperm.proofs.laws.made_laws.Goals as goal

pub returns : goal.returns
returns c = record { actions = made_asks }
