use Rattle.jtop.proofs.JdriverProofs.RunProgress.{all_go_on, both_go_on}
use Rattle.jtop.proofs.jdriver.laws.unstuck_law.Goals as goal

pub returns-clause-all : goal.returns-clause-all
returns-clause-all c =
    all_go_on c.runs_law.ensures c.rules_laws.ensures.inspecting c.runs_law-2.ensures c.rules_laws.ensures.plain
    c.part_laws.ensures c.link_law.ensures c.types_law.ensures c.begin_law.ensures.main
    c.job_laws.ensures.small c.spelling_laws.ensures.no_fault

pub returns-clause-both : goal.returns-clause-both
returns-clause-both c =
    both_go_on c.runs_law.ensures c.rules_laws.ensures.inspecting c.runs_law-2.ensures c.rules_laws.ensures.plain
    c.part_laws.ensures c.link_law.ensures c.types_law.ensures c.begin_law.ensures.main
    c.job_laws.ensures.small c.spelling_laws.ensures.no_fault
