use Rattle.std.proofs.Common.{◌∙◌}
use Rattle.jmoveclass.proofs.MethodContents.{resolved_is}
use Rattle.jmoveclass.proofs.calls.stands_for.Goals as goal

pub returns : goal.returns
returns c = c.member_at.ensures c.args.c.now.program.now c.requires.uses ∙ resolved_is c.args.c.now.program.now c.args.c.now.place c.args.n c.args.c.now.class.now c.requires.part
