use Rattle.jmoved_laws.proofs.names.laws.opening_law.Goals as goal
use Rattle.jmoved_laws.proofs.NamesProofs.Stores.{charge_same, opens_same, texts_same}

pub returns-clause-texts : goal.returns-clause-texts
returns-clause-texts g = texts_same

pub returns-clause-charge : goal.returns-clause-charge
returns-clause-charge g = charge_same

pub returns-clause-store : goal.returns-clause-store
returns-clause-store g = λ p linked heap. opens_same p linked heap
