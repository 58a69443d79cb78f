use Rattle.jlinking.proofs.JlinkProofs.CodeMeanings.{leads_within, means}
use Rattle.jlinking.proofs.jlink.laws.instruction_laws.Goals as goal

pub returns-clause-means : goal.returns-clause-means
returns-clause-means c = means

pub returns-clause-leads : goal.returns-clause-leads
returns-clause-leads c = leads_within
