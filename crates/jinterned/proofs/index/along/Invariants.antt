use Rattle.std.proofs.Common.{◌<◌, ◌≤◌, ◌≢◌, Some, ℕ}
use Rattle.std.specs.Prelude.{slice_get}
use Rattle.jinterned.specs.DigestChains.{IsOn}
use Rattle.jinterned.proofs.index.along.Given as goal

abbrev pub invariant-loop-at : goal.invariant-loop-at
invariant-loop-at l = IsOn l.digests l.earlier l.digest l.at × (l.at ≤ l.start) × ((i : ℕ) → l.at ≤ i → i < l.start → slice_get l.digests i ≢ Some l.digest)

abbrev pub decreases-loop-at : goal.decreases-loop-at
decreases-loop-at l = l.at
