use Rattle.std.proofs.Common.{◌≡◌, length}
use Rattle.jresolution.specs.jprogram.ClassTables.{AreLines}
use Rattle.jresolution.proofs.jprogram.classes.NamedProgram.all_lines.Given as goal

abbrev pub invariant-loop-i : goal.invariant-loop-i
invariant-loop-i l = AreLines l.self l.lines × (length l.lines ≡ l.i)
