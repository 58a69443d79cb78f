use Rattle.jperm.proofs.ImplicationTransitivity.{implies-trans}
use Rattle.jperm.proofs.Cover.{implies_itself}
use Rattle.jperm.proofs.PermissionEquality.{equal_same}
use Rattle.jperm.proofs.laws.permission_laws.Goals as goal

pub returns-clause-same : goal.returns-clause-same
returns-clause-same c = equal_same

pub returns-clause-itself : goal.returns-clause-itself
returns-clause-itself c = implies_itself

pub returns-clause-chain : goal.returns-clause-chain
returns-clause-chain c = implies-trans
