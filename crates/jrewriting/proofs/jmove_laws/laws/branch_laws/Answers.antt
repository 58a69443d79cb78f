use Rattle.jrewriting.proofs.JmoveLawsProofs.BranchTargets.{each_branch, leads, jumps, ended}
use Rattle.jrewriting.proofs.jmove_laws.laws.branch_laws.Goals as goal

pub returns-clause-each_branch : goal.returns-clause-each_branch
returns-clause-each_branch g f op = each_branch f op

pub returns-clause-leads : goal.returns-clause-leads
returns-clause-leads g to from at old by e = leads to from at old by e

pub returns-clause-jumps : goal.returns-clause-jumps
returns-clause-jumps g begin s ks is fits n k i nth = jumps begin s ks is fits n k i nth

pub returns-clause-ended : goal.returns-clause-ended
returns-clause-ended g begin s ks is fits = ended begin s ks is fits
