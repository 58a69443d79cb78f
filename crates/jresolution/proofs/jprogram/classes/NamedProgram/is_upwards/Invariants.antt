use Rattle.std.proofs.Common.{◌≡◌, ◌-◌, ◌+◌, length}
use Rattle.std.specs.List.{list_any}
use Rattle.std.specs.Str.{bytes_eq}
use Rattle.jresolution.specs.jprogram.ProgramClasses.{chain, known}
use Rattle.jresolution.proofs.jprogram.classes.NamedProgram.is_upwards.Given as goal

abbrev pub invariant-loop-step : goal.invariant-loop-step
invariant-loop-step l = (l.steps ≡ length (known l.self) + 1) × (list_any (bytes_eq l.d) (chain l.self (l.steps - l.step) l.at) ≡ list_any (bytes_eq l.d) (chain l.self l.steps l.fn.c))
