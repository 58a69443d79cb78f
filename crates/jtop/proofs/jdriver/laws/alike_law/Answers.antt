use Rattle.jtop.proofs.JdriverProofs.StoredRuns.{runs_alike}
use Rattle.jtop.proofs.jdriver.laws.alike_law.Goals as goal

pub returns : goal.returns
returns c =
    runs_alike c.job_laws.ensures.again c.job_laws.ensures.small c.spelling_laws.ensures.no_fault c.spelling_laws.ensures.else_fault
    c.part_laws.ensures c.link_law.ensures c.types_law.ensures c.begin_law.ensures.main
