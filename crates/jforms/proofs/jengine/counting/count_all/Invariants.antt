use Rattle.std.proofs.Common.{◌≤◌, ◌-◌}
use Rattle.jforms.specs.jtables.RunPositions.{Stands, end_of, steps}
use Rattle.jforms.proofs.JengineProofs.RunPositions.{AreAt}
use Rattle.jforms.proofs.jengine.counting.count_all.Given as goal

abbrev pub invariant-loop-made : goal.invariant-loop-made
invariant-loop-made g l = record {
  at : AreAt (end_of l.initial.engine.course) (Stands (g.G.Guard.kept l.initial.engine.guard) (g.G.Guard.entry l.initial.engine.guard) l.initial.engine.course)
      (steps (g.G.Guard.rules l.initial.engine.guard) l.initial.engine.course) l.made l.counts
      (end_of l.engine.course) (Stands (g.G.Guard.kept l.engine.guard) (g.G.Guard.entry l.engine.guard) l.engine.course) (steps (g.G.Guard.rules l.engine.guard) l.engine.course);
  few : l.made ≤ l.most;
}

abbrev pub decreases-loop-made : goal.decreases-loop-made
decreases-loop-made g l = l.most - l.made
