use Rattle.jtypes.proofs.SubtypeLaws.{fits_itself}
use Rattle.jtypes.proofs.laws.fits_laws.Goals as goal

pub returns-clause-itself : goal.returns-clause-itself
returns-clause-itself g c = λ n above a. fits_itself above (g.N.Ancestry.tree n) (λ name. g.met.N.Ancestry.reflexive n name) a
