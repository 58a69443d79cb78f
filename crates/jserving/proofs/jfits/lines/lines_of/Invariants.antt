use Rattle.jserving.specs.jfits.SubtypeTables.{AreLinesTo}
use Rattle.jserving.proofs.jfits.lines.lines_of.Given as goal

abbrev pub invariant-loop-i : goal.invariant-loop-i
invariant-loop-i l = AreLinesTo l.p l.lines l.i
