use Rattle.std.proofs.Common.{sym, ◌∙◌}
use Rattle.jmoveclass.proofs.PoolOverflow.{first_limit}
use Rattle.jmoveclass.proofs.whole.moved_class.Goals as goal

pub returns-in-Some : goal.returns-in-Some
returns-in-Some c = first_limit c.args.c.now.program.now c.args.c.now.domain c.args.c.now.class.now c.in-Some.limit (sym c.in_ok-found.ensures ∙ c.in-Some.is)
