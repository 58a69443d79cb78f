use Rattle.jtyping.proofs.JruleProofs.UnreadLocals.{looks_no_further}
use Rattle.jtyping.proofs.jrule.laws.local_law.Goals as goal

pub returns : goal.returns
returns g c = looks_no_further _
