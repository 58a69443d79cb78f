use Rattle.jsoundness_laws.proofs.LibraryProofs.ContextRows.{kept_yields}
use Rattle.jsoundness_laws.proofs.LibraryProofs.LibraryRules.{controller_yields, rt_yields}
use Rattle.jsoundness_laws.proofs.library.laws.security_laws.Goals as goal

pub returns-clause-controller : goal.returns-clause-controller
returns-clause-controller g c = controller_yields _ _

pub returns-clause-context : goal.returns-clause-context
returns-clause-context g c = kept_yields _ _

pub returns-clause-rt : goal.returns-clause-rt
returns-clause-rt g c = rt_yields _ _
