use Rattle.jmoved_laws.proofs.CodeProofs.PoolPreservation.{entries_stay}
use Rattle.jmoved_laws.proofs.code.laws.meaning_law.Goals as goal

pub returns : goal.returns
returns g p is typed none i part stands n e at alone = entries_stay p is typed none i part stands n e at alone
