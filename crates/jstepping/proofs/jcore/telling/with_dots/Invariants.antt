use Rattle.std.proofs.Common.{◌≡◌, ◌++◌, drop, map, take}
use Rattle.jsemantics.specs.ProofNames.{dotted}
use Rattle.jstepping.proofs.jcore.telling.with_dots.Given as goal

abbrev pub invariant-loop-unit : goal.invariant-loop-unit
invariant-loop-unit l = l.unit-items ≡ map dotted (take l.unit-index l.initial.unit-items) ++ drop l.unit-index l.initial.unit-items
