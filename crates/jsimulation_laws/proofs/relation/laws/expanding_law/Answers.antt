use Rattle.jsimulation_laws.proofs.RelationProofs.ExpansionLengths.{expanded_law, few_law, steps_law}
use Rattle.jsimulation_laws.proofs.relation.laws.expanding_law.Goals as goal

pub returns-clause-few : goal.returns-clause-few
returns-clause-few c = few_law

pub returns-clause-expanded : goal.returns-clause-expanded
returns-clause-expanded c = expanded_law

pub returns-clause-steps : goal.returns-clause-steps
returns-clause-steps c = steps_law
