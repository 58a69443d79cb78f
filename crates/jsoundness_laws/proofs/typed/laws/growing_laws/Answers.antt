use Rattle.jsoundness_laws.proofs.TypedProofs.StoreMonotonicity.{grows_changed, grows_itself, grows_made, grows_on, suits_later}
use Rattle.jsoundness_laws.proofs.typed.laws.growing_laws.Goals as goal

pub returns-clause-suits : goal.returns-clause-suits
returns-clause-suits g c = suits_later _ _

pub returns-clause-itself : goal.returns-clause-itself
returns-clause-itself g c = grows_itself _

pub returns-clause-on : goal.returns-clause-on
returns-clause-on g c = grows_on _

pub returns-clause-made : goal.returns-clause-made
returns-clause-made g c = grows_made _

pub returns-clause-changed : goal.returns-clause-changed
returns-clause-changed g c = grows_changed _
