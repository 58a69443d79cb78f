use Rattle.jtyping.proofs.JwelltypedProofs.Successors.{branches_to, enters_first, goes_onward, handled}
use Rattle.jtyping.proofs.jwelltyped.laws.leading_law.Goals as goal

pub returns-clause-first : goal.returns-clause-first
returns-clause-first c = enters_first

pub returns-clause-onward : goal.returns-clause-onward
returns-clause-onward c = goes_onward

pub returns-clause-branch : goal.returns-clause-branch
returns-clause-branch c = branches_to

pub returns-clause-handler : goal.returns-clause-handler
returns-clause-handler c = handled
