use Rattle.jserving.proofs.JfitsProofs.TypeFits.{one_fits, under_object}
use Rattle.jserving.proofs.jfits.fitting.class_fits_soon.Goals as goal

pub returns-then-are_one : goal.returns-then-are_one
returns-then-are_one c = one_fits c.args.a.now c.args.asked c.args.c c.args.d (c.are_one.ensures c.if-are_one.true)

pub returns-then-is_object : goal.returns-then-is_object
returns-then-is_object c = under_object c.args.a.now c.args.asked c.args.c c.args.d (c.is_object.ensures c.if-is_object.true)
