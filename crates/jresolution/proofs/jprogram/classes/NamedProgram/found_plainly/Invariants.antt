use Rattle.std.proofs.Common.{◌≡◌, ◌-◌, ◌+◌, length}
use Rattle.jground.specs.jbase.FirstFaults.{first_some}
use Rattle.jresolution.specs.jprogram.ProgramClasses.{chain, known}
use Rattle.jresolution.specs.jprogram.ClassTables.{IsAt}
use Rattle.jresolution.specs.jprogram.InterfaceSearch.{at_and_over}
use Rattle.jresolution.proofs.jprogram.classes.NamedProgram.found_plainly.Given as goal

abbrev pub invariant-loop-step : goal.invariant-loop-step
invariant-loop-step l = (l.steps ≡ length (known l.self) + 1) × (IsAt l.self l.at × (first_some (at_and_over l.self l.sort l.key.name.now l.key.desc.now) (chain l.self (l.steps - l.step) l.at.name.now) ≡ first_some (at_and_over l.self l.sort l.key.name.now l.key.desc.now) (chain l.self l.steps l.fn.class)))
