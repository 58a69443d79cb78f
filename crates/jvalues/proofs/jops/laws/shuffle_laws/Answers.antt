use Rattle.jvalues.proofs.JopsProofs.StackMoveFronts.{shuffle_four, shuffle_front}
use Rattle.jvalues.proofs.jops.laws.shuffle_laws.Goals as goal

pub returns-clause-four : goal.returns-clause-four
returns-clause-four g c = λ s stack. shuffle_four s stack

pub returns-clause-below : goal.returns-clause-below
returns-clause-below g c = λ s stack below m e. shuffle_front s stack below m e
