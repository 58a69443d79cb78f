use Rattle.std.proofs.Common.{◌≡◌, ◌-◌, ◌+◌, length}
use Rattle.jground.specs.jbase.FirstFaults.{first_some}
use Rattle.jresolution.specs.jprogram.ProgramClasses.{chain, known}
use Rattle.jresolution.specs.jprogram.InterfaceSearch.{AreClosed, at_and_over, member_at}
use Rattle.jresolution.proofs.jprogram.classes.NamedProgram.found_upwards.Given as goal

abbrev pub invariant-loop-step : goal.invariant-loop-step
invariant-loop-step l =
    (l.steps ≡ length (known l.self) + 1) × AreClosed l.self (member_at l.self l.sort l.name l.desc) l.closed
    × (first_some (at_and_over l.self l.sort l.name l.desc) (chain l.self (l.steps - l.step) l.at) ≡ first_some (at_and_over l.self l.sort l.name l.desc) (chain l.self l.steps l.fn.class))
