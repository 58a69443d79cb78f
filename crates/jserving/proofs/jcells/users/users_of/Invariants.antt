use Rattle.jserving.specs.jcells.UserClassCells.{AreShapesTo}
use Rattle.jserving.proofs.jcells.users.users_of.Given as goal

abbrev pub invariant-loop-class : goal.invariant-loop-class
invariant-loop-class l = AreShapesTo l.ready.program l.users l.class
