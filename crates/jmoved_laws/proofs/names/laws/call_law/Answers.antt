use Rattle.jmoved_laws.proofs.names.laws.call_law.Goals as goal
use Rattle.jmoved_laws.proofs.NamesProofs.CallPreservation.{calls_stay}

pub returns : goal.returns
returns c = calls_stay
