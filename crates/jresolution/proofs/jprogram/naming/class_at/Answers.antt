use Rattle.std.proofs.Common.{ap, ◌∙◌}
use Rattle.jresolution.proofs.JprogramProofs.PoolTextMarks.{class_in, class_marked}
use Rattle.jresolution.proofs.jprogram.naming.class_at.Goals as goal

pub returns-in-Some : goal.returns-in-Some
returns-in-Some c = ap class_in c.in-Some.ensures ∙ class_marked c.args.entries.now c.args.marks.now c.args.i c.requires

pub returns-in-None : goal.returns-in-None
returns-in-None c = ap class_in c.in-None.ensures ∙ class_marked c.args.entries.now c.args.marks.now c.args.i c.requires
