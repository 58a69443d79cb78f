use Rattle.jresolution.specs.jprogram.ImplementedInterfaces.{AreRows}
use Rattle.jresolution.proofs.jprogram.classes.NamedProgram.settle_in_order.Given as goal

abbrev pub invariant-loop-next : goal.invariant-loop-next
invariant-loop-next l = AreRows l.self l.rows
