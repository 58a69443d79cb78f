use Rattle.jrewriting.proofs.JmoveLawsProofs.CodePlaces.{ends, first, rise}
use Rattle.jrewriting.proofs.jmove_laws.laws.place_laws.Goals as goal

pub returns-clause-first : goal.returns-clause-first
returns-clause-first g begin s ks is fits = first begin s ks is fits

pub returns-clause-ends : goal.returns-clause-ends
returns-clause-ends g begin s ks is fits n k i nth = ends begin s ks is fits n k i nth

pub returns-clause-rise : goal.returns-clause-rise
returns-clause-rise g begin s ks is e fits p q is_p is_q lt = rise begin s ks is e fits p q is_p is_q lt
