use Rattle.std.proofs.Common.{◌≡◌, ◌+◌, length}
use Rattle.jresolution.specs.jprogram.ProgramClasses.{known}
use Rattle.jresolution.specs.jprogram.ImplementedInterfaces.{AreRows}
use Rattle.jresolution.proofs.JprogramProofs.ImplementationRows.{MadeBelow}
use Rattle.jresolution.proofs.jprogram.classes.NamedProgram.fill.Given as goal

abbrev pub invariant-loop-step : goal.invariant-loop-step
invariant-loop-step l = (l.steps ≡ length (known l.self) + 1) × AreRows l.self l.rows × MadeBelow l.self l.step l.rows
