use Rattle.jsemantics.proofs.JrulesProofs.RuleEquivalence.{begins, calls, checks, held, keeps, privileges}
use Rattle.jsemantics.proofs.jrules.laws.answer_laws.Goals as goal

pub returns-clause-checks : goal.returns-clause-checks
returns-clause-checks c = checks c.context_laws.ensures.decides

pub returns-clause-held : goal.returns-clause-held
returns-clause-held c = held c.context_laws.ensures.decides

pub returns-clause-keeps : goal.returns-clause-keeps
returns-clause-keeps c = keeps

pub returns-clause-calls : goal.returns-clause-calls
returns-clause-calls c = calls

pub returns-clause-begins : goal.returns-clause-begins
returns-clause-begins c = begins

pub returns-clause-privileges : goal.returns-clause-privileges
returns-clause-privileges c = privileges c.context_laws.ensures.behind
