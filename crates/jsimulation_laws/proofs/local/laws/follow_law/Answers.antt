use Rattle.jsimulation_laws.proofs.LocalProofs.LocalSimulation.{follows_in_few, locally_follows}
use Rattle.jsimulation_laws.proofs.local.laws.follow_law.Goals as goal

pub returns-clause-counted : goal.returns-clause-counted
returns-clause-counted c = locally_follows c.context_laws.ensures.behind

pub returns-clause-few : goal.returns-clause-few
returns-clause-few c = follows_in_few (locally_follows c.context_laws.ensures.behind)
