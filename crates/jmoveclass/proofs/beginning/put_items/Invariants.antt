use Rattle.std.proofs.Common.{◌≡◌, drop}
use Rattle.jmoveclass.specs.EntryLocals.{with_item}
use Rattle.jmoveclass.specs.PoolPuts.{with_each}
use Rattle.jmoveclass.proofs.ItemAdditions.{with_done}
use Rattle.jmoveclass.proofs.beginning.put_items.Given as goal

abbrev pub invariant-loop-t : goal.invariant-loop-t
invariant-loop-t l = with_done l.items (with_each with_item (drop l.t-index l.types) l.pool) ≡ with_each with_item l.types l.fn.pool
