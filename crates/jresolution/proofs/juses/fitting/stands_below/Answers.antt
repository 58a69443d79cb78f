use Rattle.jresolution.proofs.JusesProofs.NameLookup.{one_extends}
use Rattle.jresolution.proofs.juses.fitting.stands_below.Goals as goal

pub returns-then-are_one : goal.returns-then-are_one
returns-then-are_one c = one_extends c.args.p.now c.args.c c.args.d (c.are_one.ensures c.if-are_one.true)
