use Rattle.jrewriting.proofs.JmoveLawsProofs.CodeEncodings.{spelled}
use Rattle.jrewriting.proofs.jmove_laws.laws.spelling_laws.Goals as goal

pub returns : goal.returns
returns g = record { spelled = spelled }
