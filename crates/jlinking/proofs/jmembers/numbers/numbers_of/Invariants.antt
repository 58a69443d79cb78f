use Rattle.std.proofs.Common.{◌≡◌, take}
use Rattle.jlinking.specs.jmembers.PoolTexts.{numbers_of}
use Rattle.jlinking.proofs.jmembers.numbers.numbers_of.Given as goal

abbrev pub invariant-loop-one : goal.invariant-loop-one
invariant-loop-one l = l.numbers.items ≡ numbers_of l.entries (take l.one-index l.entries)
