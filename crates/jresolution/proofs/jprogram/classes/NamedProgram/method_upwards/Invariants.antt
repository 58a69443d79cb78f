use Rattle.std.proofs.Common.{◌≡◌, ◌-◌, ◌+◌, length}
use Rattle.jground.specs.jbase.FirstFaults.{first_some}
use Rattle.jresolution.specs.jprogram.ProgramClasses.{chain, known}
use Rattle.jresolution.specs.jprogram.ClassTables.{IsAt}
use Rattle.jresolution.specs.jprogram.MemberResolution.{method_at}
use Rattle.jresolution.proofs.jprogram.classes.NamedProgram.method_upwards.Given as goal

abbrev pub invariant-loop-step : goal.invariant-loop-step
invariant-loop-step l = (l.steps ≡ length (known l.self) + 1) × (IsAt l.self l.at × (first_some (method_at l.self l.key.name.now l.key.desc.now) (chain l.self (l.steps - l.step) l.at.name.now) ≡ first_some (method_at l.self l.key.name.now l.key.desc.now) (chain l.self l.steps l.fn.class)))
