use Rattle.jmemory.specs.jheap.Heaps.{cells_at}
use Rattle.jlibcalls.specs.jcontexts.LimitPermissions.{AreLeft}
use Rattle.jlibcalls.proofs.jcontexts.arrays.all_limits.Given as goal

abbrev pub invariant-loop-i : goal.invariant-loop-i
invariant-loop-i l = AreLeft l.permissions l.heap l.of (cells_at l.heap l.o) l.limits l.i
