use Rattle.joutput.proofs.JtallyProofs.LineCounts.{all_counts}
use Rattle.joutput.proofs.jtally.laws.tally_laws.Goals as goal

pub returns : goal.returns
returns c = record { counts = all_counts }
