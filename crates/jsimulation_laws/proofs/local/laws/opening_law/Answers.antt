use Rattle.jsimulation_laws.proofs.LocalProofs.MainPrologue.{begins_law}
use Rattle.jsimulation_laws.proofs.local.laws.opening_law.Goals as goal

pub returns : goal.returns
returns c = begins_law
