use Rattle.jsoundness_laws.proofs.LibraryProofs.ThrowableRows.{control_yields, get_yields, object_yields, thrown_yields}
use Rattle.jsoundness_laws.proofs.library.laws.throwable_laws.Goals as goal

pub returns-clause-object : goal.returns-clause-object
returns-clause-object g c = object_yields _ _

pub returns-clause-thrown : goal.returns-clause-thrown
returns-clause-thrown g c = thrown_yields _ _

pub returns-clause-access_control : goal.returns-clause-access_control
returns-clause-access_control g c = control_yields _ _

pub returns-clause-message : goal.returns-clause-message
returns-clause-message g c = get_yields _ _
