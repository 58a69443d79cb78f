use Rattle.jmoved_laws.proofs.names.laws.clear_law.Goals as goal
use Rattle.jmoved_laws.proofs.NamesProofs.UserMethodLookup.{below, had}

pub returns-clause-below : goal.returns-clause-below
returns-clause-below g = below

pub returns-clause-had : goal.returns-clause-had
returns-clause-had g = had
