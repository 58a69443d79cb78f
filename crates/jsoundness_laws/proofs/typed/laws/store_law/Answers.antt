use Rattle.jsoundness_laws.proofs.TypedProofs.ObjectAllocation.{stored_made}
use Rattle.jsoundness_laws.proofs.typed.laws.store_law.Goals as goal

pub returns : goal.returns
returns g c = stored_made _
