use Rattle.jmoved_laws.proofs.ContextsProofs.SmallContexts.{stay_small}
use Rattle.jmoved_laws.proofs.contexts.laws.small_law.Goals as goal

pub returns : goal.returns
returns c = stay_small c.asking_laws.ensures.at c.asking_laws.ensures.opening
