use Rattle.std.proofs.Common.{ap, ◌∙◌}
use Rattle.jresolution.proofs.JprogramProofs.PoolTextMarks.{desc_in, desc_marked}
use Rattle.jresolution.proofs.jprogram.naming.desc_at.Goals as goal

pub returns-in-Some : goal.returns-in-Some
returns-in-Some c = ap desc_in c.in-Some.ensures ∙ desc_marked c.args.entries.now c.args.marks.now c.args.i c.requires

pub returns-in-None : goal.returns-in-None
returns-in-None c = ap desc_in c.in-None.ensures ∙ desc_marked c.args.entries.now c.args.marks.now c.args.i c.requires
