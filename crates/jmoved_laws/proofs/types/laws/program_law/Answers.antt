use Rattle.jmoved_laws.proofs.TypesProofs.RuleAgreement.{asks_tree}
use Rattle.jmoved_laws.proofs.types.laws.program_law.Goals as goal

pub returns : goal.returns
returns c = asks_tree
