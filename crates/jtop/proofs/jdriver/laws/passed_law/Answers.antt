use Rattle.jtop.proofs.JdriverProofs.PassedRuns.{all_agree, all_checked, none_stuck}
use Rattle.jtop.proofs.jdriver.laws.passed_law.Goals as goal

pub returns-clause-agrees : goal.returns-clause-agrees
returns-clause-agrees c = all_agree c.job_laws.ensures.small c.spelling_laws.ensures.no_fault c.moved_laws.ensures.runs

pub returns-clause-checked : goal.returns-clause-checked
returns-clause-checked c = all_checked c.job_laws.ensures.small c.spelling_laws.ensures.no_fault c.link_law.ensures c.types_law.ensures

pub returns-clause-unstuck : goal.returns-clause-unstuck
returns-clause-unstuck c = none_stuck c.unstuck_law.ensures.both
