use Rattle.jserving.specs.jcells.UserClassCells.{AreLinesTo}
use Rattle.jserving.proofs.jcells.lines.lines_of.Given as goal

abbrev pub invariant-loop-i : goal.invariant-loop-i
invariant-loop-i l = AreLinesTo l.p l.lines l.i
