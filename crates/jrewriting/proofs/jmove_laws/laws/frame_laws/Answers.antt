use Rattle.jrewriting.proofs.JmoveLawsProofs.FramePlaces.{begins, items_fitting, written}
use Rattle.jrewriting.proofs.jmove_laws.laws.frame_laws.Goals as goal

pub returns-clause-begins : goal.returns-clause-begins
returns-clause-begins g begin s ks is fits n k i context f nth e = begins begin s ks is fits n k i context f nth e

pub returns-clause-written : goal.returns-clause-written
returns-clause-written g begin s ks is e fits near small context fs stand fit h = written begin s ks is e fits near small context fs stand fit h

pub returns-clause-items_fit : goal.returns-clause-items_fit
returns-clause-items_fit g begin s ks is near context fs small h = items_fitting begin s ks is near context fs small h
