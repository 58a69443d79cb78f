use Rattle.std.proofs.Common.{◌≡◌, ◌-◌, ◌+◌, length}
use Rattle.jresolution.specs.jprogram.ProgramClasses.{chain, known}
use Rattle.jresolution.specs.jprogram.MemberResolution.{first_taking, methods_along}
use Rattle.jresolution.proofs.jprogram.classes.NamedProgram.first_taking.Given as goal

abbrev pub invariant-loop-step : goal.invariant-loop-step
invariant-loop-step l =
    (l.steps ≡ length (known l.self) + 1)
    × (first_taking l.self l.resolved (methods_along l.self l.name l.desc (chain l.self (l.steps - l.step) l.at)) ≡ first_taking l.self l.resolved (methods_along l.self l.name l.desc (chain l.self l.steps l.fn.on)))
