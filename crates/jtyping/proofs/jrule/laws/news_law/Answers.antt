use Rattle.jtyping.proofs.JruleProofs.NewInstructions.{asks_places}
use Rattle.jtyping.proofs.jrule.laws.news_law.Goals as goal

pub returns : goal.returns
returns g c = asks_places _
