use Rattle.jrewriting.proofs.JmoveLawsProofs.HandlerRanges.{ranges}
use Rattle.jrewriting.proofs.jmove_laws.laws.handler_laws.Goals as goal

pub returns : goal.returns
returns g = record { ranges = ranges }
