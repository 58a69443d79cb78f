use Rattle.jtyping.proofs.JruleProofs.OrderedPrograms.{keeps_precise, precise_fits, precise_itself}
use Rattle.jtyping.proofs.jrule.laws.precise_law.Goals as goal

pub returns-clause-itself : goal.returns-clause-itself
returns-clause-itself g c = precise_itself

pub returns-clause-fitting : goal.returns-clause-fitting
returns-clause-fitting g c = precise_fits

pub returns-clause-kept : goal.returns-clause-kept
returns-clause-kept g c = keeps_precise _
