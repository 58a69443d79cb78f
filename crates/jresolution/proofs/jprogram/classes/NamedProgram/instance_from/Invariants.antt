use Rattle.std.proofs.Common.{◌≡◌, ◌-◌, ◌+◌, length}
use Rattle.jground.specs.jbase.FirstFaults.{first_some}
use Rattle.jresolution.specs.jprogram.ProgramClasses.{chain, known}
use Rattle.jresolution.specs.jprogram.OverrideChains.{instance_at}
use Rattle.jresolution.proofs.jprogram.classes.NamedProgram.instance_from.Given as goal

abbrev pub invariant-loop-step : goal.invariant-loop-step
invariant-loop-step l = (l.steps ≡ length (known l.self) + 1) × (first_some (instance_at l.self l.name l.desc) (chain l.self (l.steps - l.step) l.at) ≡ first_some (instance_at l.self l.name l.desc) (chain l.self l.steps l.fn.on))
