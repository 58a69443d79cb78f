use Rattle.std.proofs.Common.{arith}
use Rattle.jmoveclass.proofs.beginning.slots.Goals as goal

pub overflow_cast-count : goal.overflow_cast-count
overflow_cast-count c = omega (arith, rw c.requires.params at c.slots_of-count.ensures, c.requires.few)

pub overflow_add-result : goal.overflow_add-result
overflow_add-result c = omega (arith, rw c.requires.params at c.slots_of-count.ensures, c.requires.few)
