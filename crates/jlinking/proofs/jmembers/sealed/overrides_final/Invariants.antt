use Rattle.std.proofs.Common.{◌≡◌, ◌-◌, ◌+◌, length}
use Rattle.jresolution.specs.jprogram.ProgramClasses.{chain, known, up}
use Rattle.jresolution.specs.jprogram.ClassTables.{IsAt}
use Rattle.jresolution.specs.jprogram.MemberResolution.{methods_along}
use Rattle.jlinking.specs.jmembers.MemberDeclarations.{overrides_final}
use Rattle.jlinking.specs.jmembers.FinalOverrides.{barred_by, has}
use Rattle.std.proofs.Common.{[]}
use Rattle.jlinking.proofs.jmembers.sealed.overrides_final.Given as goal

abbrev pub invariant-loop-step : goal.invariant-loop-step
invariant-loop-step l =
    (l.steps ≡ length (known l.program) + 1)
    × (IsAt l.program l.at × (barred_by l.program l.below (has l.shown) (methods_along l.program l.key.name.now l.key.desc.now (chain l.program (l.steps - l.step) l.at.name.now)) ≡ overrides_final l.program l.below [] (methods_along l.program l.key.name.now l.key.desc.now (up l.program l.fn.from))))
