use Rattle.std.proofs.Common.{take}
use Rattle.jadder.specs.ConstantNumbers.{AreLeast}
use Rattle.jadder.proofs.adder.numbers_of.Given as goal

abbrev pub invariant-loop-i : goal.invariant-loop-i
invariant-loop-i l = AreLeast l.numbers (take l.i l.entries)
