use Rattle.std.specs.Prelude.{reverse}
use Rattle.jresolution.specs.jlayout.FieldCounts.{Climbs, count_from}
use Rattle.jresolution.proofs.JlayoutProofs.Walks.{rest_of}
use Rattle.jresolution.proofs.jlayout.counts.path_from.Given as goal

abbrev pub invariant-loop-next : goal.invariant-loop-next
invariant-loop-next l = Climbs l.p l.fn.class (count_from l.p l.next) (reverse l.classes.items)

abbrev pub decreases-loop-next : goal.decreases-loop-next
decreases-loop-next l = rest_of l.p l.next
