use Rattle.jresolution.proofs.JprogramProofs.ImplementationRows.{Rounding}
use Rattle.jresolution.proofs.jprogram.classes.NamedProgram.round.Given as goal

abbrev pub invariant-loop-j : goal.invariant-loop-j
invariant-loop-j l = Rounding l.self l.fn.rows l.j l.rows
