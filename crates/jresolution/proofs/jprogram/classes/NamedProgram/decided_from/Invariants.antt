use Rattle.std.proofs.Common.{◌≡◌, ◌-◌}
use Rattle.jground.specs.jbase.FirstFaults.{first_some}
use Rattle.jresolution.specs.jprogram.ProgramClasses.{chain}
use Rattle.jresolution.specs.jprogram.OverrideChains.{decided_at}
use Rattle.jresolution.proofs.jprogram.classes.NamedProgram.decided_from.Given as goal

abbrev pub invariant-loop-step : goal.invariant-loop-step
invariant-loop-step l = (first_some (decided_at l.self l.above l.name l.desc) (chain l.self (l.left - l.step) l.at) ≡ first_some (decided_at l.self l.above l.name l.desc) (chain l.self l.left l.from))
