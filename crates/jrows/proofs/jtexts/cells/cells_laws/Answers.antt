use Rattle.jrows.proofs.JtextsProofs.CallCells.{last_follows, tell_follows, told_follows}
use Rattle.jrows.proofs.jtexts.cells.cells_laws.Goals as goal

pub returns-clause-last : goal.returns-clause-last
returns-clause-last c = last_follows c.celled_laws.ensures.has

pub returns-clause-tell : goal.returns-clause-tell
returns-clause-tell c = tell_follows c.celled_laws.ensures.has

pub returns-clause-told : goal.returns-clause-told
returns-clause-told c = told_follows c.celled_laws.ensures.has
