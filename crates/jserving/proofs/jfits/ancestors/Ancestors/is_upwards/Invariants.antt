use Rattle.std.proofs.Common.{◌≡◌, ◌-◌, ◌+◌, length}
use Rattle.std.specs.List.{list_any}
use Rattle.std.specs.Str.{bytes_eq}
use Rattle.jresolution.specs.jprogram.ProgramClasses.{chain, known, name_at}
use Rattle.jresolution.specs.jprogram.ImplementedInterfaces.{IsNumber}
use Rattle.jserving.proofs.jfits.ancestors.Ancestors.is_upwards.Given as goal

abbrev pub invariant-loop-step : goal.invariant-loop-step
invariant-loop-step l =
    (l.steps ≡ length (known l.self) + 1)
    × (IsNumber l.self l.at
    × (list_any (bytes_eq (name_at l.self l.d)) (chain l.self (l.steps - l.step) (name_at l.self l.at)) ≡ list_any (bytes_eq (name_at l.self l.d)) (chain l.self l.steps (name_at l.self l.fn.c))))
