use Rattle.jpass_laws.proofs.ComposedSimulation.{stands_in_few, stands_throughout}
use Rattle.jpass_laws.proofs.laws.stand_law.Goals as goal

pub returns-clause-counted : goal.returns-clause-counted
returns-clause-counted c = stands_throughout c.beside_laws.ensures.sourced_steps c.beside_laws.ensures.shadowed_steps c.follow_law.ensures.counted

pub returns-clause-few : goal.returns-clause-few
returns-clause-few c =
    stands_in_few c.expanding_law.ensures.steps
    (stands_throughout c.beside_laws.ensures.sourced_steps c.beside_laws.ensures.shadowed_steps c.follow_law.ensures.counted)
