use Rattle.std.proofs.Common.{ap, ◌∙◌}
use Rattle.jlinking.proofs.JmembersProofs.PoolTextMarks.{marked, marks_or}
use Rattle.jlinking.proofs.jmembers.descs.marks_at.Goals as goal

pub returns-in-Some : goal.returns-in-Some
returns-in-Some c = ap marks_or c.in-Some.ensures ∙ marked c.args.program.now c.args.entries.now c.args.marks.now c.args.i c.requires

pub returns-in-None : goal.returns-in-None
returns-in-None c = ap marks_or c.in-None.ensures ∙ marked c.args.program.now c.args.entries.now c.args.marks.now c.args.i c.requires
