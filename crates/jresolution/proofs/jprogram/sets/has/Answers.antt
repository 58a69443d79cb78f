use Rattle.jresolution.proofs.JprogramProofs.BitLaws.{has_none, has_some}
use Rattle.jresolution.proofs.jprogram.sets.has.Goals as goal

pub returns-in-Some : goal.returns-in-Some
returns-in-Some c = has_some c.args.words.now c.args.number c.in-Some.word.now (c.in-Some.ensures.lookup.3.1 0)

pub returns-in-None : goal.returns-in-None
returns-in-None c = has_none c.args.words.now c.args.number c.in-None.ensures.lookup.3
