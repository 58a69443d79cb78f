use Rattle.jmoved_laws.proofs.names.laws.resolved_law.Goals as goal
use Rattle.jmoved_laws.proofs.NamesProofs.LinkedCalls.{resolved_so}

pub returns : goal.returns
returns c = resolved_so
