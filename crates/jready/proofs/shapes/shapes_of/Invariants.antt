use Rattle.jready.specs.ClassShapes.{AreShapesTo}
use Rattle.jready.proofs.shapes.shapes_of.Given as goal

abbrev pub invariant-loop-k : goal.invariant-loop-k
invariant-loop-k l = AreShapesTo l.p l.shapes l.k
