use Rattle.std.proofs.Common.{sym, subst}
use Rattle.jresolution.specs.jprogram.OrderedPrograms.{StandsInOrder}
use Rattle.jlinking.specs.jlink.ClassOrder.{in_order}
use Rattle.jready.proofs.ready.layouts_of.Goals as goal

pub of-requires : goal.of-requires
of-requires c = subst StandsInOrder (sym c.named.ensures.same) (in_order c.args.p.now c.named.ensures.links)
