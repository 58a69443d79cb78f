use Rattle.std.proofs.Common.{◌≡◌, ℕ, ◌-◌, length}
use Rattle.jresolution.specs.jprogram.BitSets.{word_at}
use Rattle.jresolution.proofs.jprogram.sets.grow.Given as goal

abbrev pub invariant-loop-words : goal.invariant-loop-words
invariant-loop-words l = (i : ℕ) → word_at l.words i ≡ word_at l.initial.words i

abbrev pub decreases-loop-words : goal.decreases-loop-words
decreases-loop-words l = l.count - length l.words
