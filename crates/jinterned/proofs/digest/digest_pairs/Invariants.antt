use Rattle.std.proofs.Common.{◌≡◌, length}
use Rattle.jinterned.specs.ContextDigests.{digest_from, digest_pairs}
use Rattle.jinterned.proofs.digest.digest_pairs.Given as goal

abbrev pub invariant-loop-rest : goal.invariant-loop-rest
invariant-loop-rest l = digest_from l.sum l.rest ≡ digest_pairs l.pairs

abbrev pub decreases-loop-rest : goal.decreases-loop-rest
decreases-loop-rest l = length l.rest
