use Rattle.jmoved_laws.proofs.names.laws.world_law.Goals as goal
use Rattle.jmoved_laws.proofs.NamesProofs.Worlds.{classes_stay}

pub returns : goal.returns
returns c = classes_stay
