use Rattle.std.proofs.Common.{◌≡◌, length}
use Rattle.jpolicy.specs.Expansion.{expands_itself}
use Rattle.jpolicy.proofs.expanding.expands_itself.Given as goal

abbrev pub invariant-loop-rest : goal.invariant-loop-rest
invariant-loop-rest l = expands_itself l.rest ≡ expands_itself l.text

abbrev pub decreases-loop-rest : goal.decreases-loop-rest
decreases-loop-rest l = length l.rest
