use Rattle.jsimulation_laws.proofs.StutteringProofs.CountedAnswers.{counts_law}
use Rattle.jsimulation_laws.proofs.StutteringProofs.LeadCounts.{ends_behind_law, keeps_behind_law}
use Rattle.jsimulation_laws.proofs.StutteringProofs.StutterCounts.{ends_law, keeps_law}
use Rattle.jsimulation_laws.proofs.stuttering.laws.count_laws.Goals as goal

pub returns-clause-keeps : goal.returns-clause-keeps
returns-clause-keeps g c = λ by. keeps_law (g.P.TwoStates.stands by)

pub returns-clause-ends : goal.returns-clause-ends
returns-clause-ends g c = λ by. ends_law (g.P.TwoStates.stands by)

pub returns-clause-keeps_behind : goal.returns-clause-keeps_behind
returns-clause-keeps_behind g c = λ by. keeps_behind_law (g.P.TwoStates.stands by)

pub returns-clause-ends_behind : goal.returns-clause-ends_behind
returns-clause-ends_behind g c = λ by. ends_behind_law (g.P.TwoStates.stands by)

pub returns-clause-counted : goal.returns-clause-counted
returns-clause-counted g c = λ by. counts_law (g.P.TwoStates.stands by)
