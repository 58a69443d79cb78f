use Rattle.jguard.proofs.GuardAnswers.{known_law, opening_law, stays_law, step_law}
use Rattle.jguard.proofs.FetchedAsks.{called_law, fetched_law}
use Rattle.jguard.proofs.laws.guard_laws.Goals as goal

pub returns-clause-stays : goal.returns-clause-stays
returns-clause-stays g c = stays_law _ _ _

pub returns-clause-opening : goal.returns-clause-opening
returns-clause-opening g c = opening_law c.asking_laws.ensures.opening c.asking_laws-2.ensures.opening

pub returns-clause-known : goal.returns-clause-known
returns-clause-known g c = known_law c.asking_laws.ensures.asks c.asking_laws-2.ensures.asks

pub returns-clause-step : goal.returns-clause-step
returns-clause-step g c =
    step_law c.asking_laws.ensures.asks c.asking_laws-2.ensures.asks c.asking_laws-2.ensures.answers c.asking_laws.ensures.at c.asking_laws-2.ensures.step

pub returns-clause-fetched : goal.returns-clause-fetched
returns-clause-fetched g c = fetched_law _ _

pub returns-clause-called : goal.returns-clause-called
returns-clause-called g c = called_law _ _
