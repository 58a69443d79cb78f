use Rattle.jpass_laws.proofs.RunProgress.{inspected_unstuck, passes_all}
use Rattle.jpass_laws.proofs.laws.moved_laws.Goals as goal

pub returns-clause-states : goal.returns-clause-states
returns-clause-states c = λ has p plan links typed small. c.stand_law.ensures.counted has p _ plan (c.moves_law.ensures p links typed small)

pub returns-clause-few : goal.returns-clause-few
returns-clause-few c = λ has p plan links typed small. c.stand_law.ensures.few has p _ plan (c.moves_law.ensures p links typed small)

pub returns-clause-runs : goal.returns-clause-runs
returns-clause-runs c = λ has p plan name links typed small is.
    passes_all has p _ plan (c.pass_law.ensures has p _ plan name (c.moves_law.ensures p links typed small) is)
    (inspected_unstuck c.runs_law.ensures c.rules_laws.ensures.inspecting has p plan name links typed is)
