use Rattle.jresolution.proofs.JusesProofs.NameLookup.{one_fits}
use Rattle.jresolution.proofs.juses.fitting.class_fits.Goals as goal

pub returns-then-are_one : goal.returns-then-are_one
returns-then-are_one c = one_fits c.args.p.now c.args.c c.args.d (c.are_one.ensures c.if-are_one.true)
