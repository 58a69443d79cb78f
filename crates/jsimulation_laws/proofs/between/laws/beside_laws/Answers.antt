use Rattle.jsimulation_laws.proofs.BetweenProofs.MachineAgreement.{shadowed_agree, shadowed_runs, shadowed_steps, sourced_agree, sourced_runs, sourced_steps}
use Rattle.jsimulation_laws.proofs.between.laws.beside_laws.Goals as goal

pub returns-clause-sourced : goal.returns-clause-sourced
returns-clause-sourced c = sourced_agree c.context_laws.ensures.decides

pub returns-clause-sourced_steps : goal.returns-clause-sourced_steps
returns-clause-sourced_steps c = sourced_steps c.context_laws.ensures.decides c.asking_laws.ensures.step

pub returns-clause-sourced_runs : goal.returns-clause-sourced_runs
returns-clause-sourced_runs c = sourced_runs c.context_laws.ensures.decides c.asking_laws.ensures.run

pub returns-clause-shadowed : goal.returns-clause-shadowed
returns-clause-shadowed c = shadowed_agree

pub returns-clause-shadowed_steps : goal.returns-clause-shadowed_steps
returns-clause-shadowed_steps c = shadowed_steps c.asking_laws-2.ensures.step

pub returns-clause-shadowed_runs : goal.returns-clause-shadowed_runs
returns-clause-shadowed_runs c = shadowed_runs c.asking_laws-2.ensures.run
