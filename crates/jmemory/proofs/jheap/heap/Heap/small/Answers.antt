use Rattle.std.proofs.Common.{subst, arith}
use Rattle.jmemory.specs.jheap.Heaps.{AreSmall}
use Rattle.jmemory.proofs.JheapProofs.ObjectBlocks.{small}
use Rattle.jmemory.proofs.jheap.heap.Heap.small.Goals as goal

pub returns : goal.returns
returns c =
    subst AreSmall c.self.view_is (small c.self.inside.region c.self.inside.blocks.items c.self.inside.kept.items (omega (arith, c.self.invariant.4)))
