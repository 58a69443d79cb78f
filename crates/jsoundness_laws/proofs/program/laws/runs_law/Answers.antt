use Rattle.jsoundness_laws.proofs.ProgramProofs.ProgramRuns.{runs}
use Rattle.jsoundness_laws.proofs.program.laws.runs_law.Goals as goal

pub returns : goal.returns
returns g c = runs _ _ c.states_laws.ensures.run
