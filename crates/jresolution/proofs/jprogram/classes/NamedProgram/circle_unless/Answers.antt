use Rattle.jresolution.proofs.JprogramProofs.Order.{apart_none}
use Rattle.jresolution.proofs.jprogram.classes.NamedProgram.circle_unless.Goals as goal

pub returns-then-is_apart : goal.returns-then-is_apart
returns-then-is_apart c = apart_none c.args.self.now c.args.class.now c.this_name.result.now c.this_name.ensures (c.is_apart.ensures c.if-is_apart.true)
