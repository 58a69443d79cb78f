use Rattle.jmoved_laws.proofs.NamesProofs.UserMethodLookup.{found_so}
use Rattle.jmoved_laws.proofs.names.laws.found_law.Goals as goal

pub returns : goal.returns
returns c = found_so
