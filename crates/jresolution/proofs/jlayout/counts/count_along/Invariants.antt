use Rattle.std.specs.Prelude.{length, reverse}
use Rattle.jresolution.specs.jlayout.FieldCounts.{AreKnown, Climbs}
use Rattle.jresolution.proofs.jlayout.counts.count_along.Given as goal

abbrev pub invariant-loop-at : goal.invariant-loop-at
invariant-loop-at l = AreKnown l.p l.known × Climbs l.p l.fn.class l.count (reverse l.classes.items)

abbrev pub decreases-loop-at : goal.decreases-loop-at
decreases-loop-at l = length l.classes.items
