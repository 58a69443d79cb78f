use Rattle.jtop.proofs.JdriverProofs.GeneratedAnswers.{made_have_status}
use Rattle.jtop.proofs.jdriver.laws.made_law.Goals as goal

pub returns : goal.returns
returns c = made_have_status
