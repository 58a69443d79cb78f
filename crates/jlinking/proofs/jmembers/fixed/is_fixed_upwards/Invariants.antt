use Rattle.std.proofs.Common.{◌≡◌, ◌-◌, ◌+◌, length}
use Rattle.std.specs.List.{list_any}
use Rattle.jresolution.specs.jprogram.ProgramClasses.{chain, known}
use Rattle.jlinking.specs.ProofNames.{is_fixed_at}
use Rattle.jlinking.proofs.jmembers.fixed.is_fixed_upwards.Given as goal

abbrev pub invariant-loop-step : goal.invariant-loop-step
invariant-loop-step l =
    (l.steps ≡ length (known l.program) + 1) × (list_any (is_fixed_at l.program l.name l.desc) (chain l.program (l.steps - l.step) l.at) ≡ list_any (is_fixed_at l.program l.name l.desc) (chain l.program l.steps l.from))
