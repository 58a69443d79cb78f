use Rattle.std.proofs.Common.{◌≡◌, drop, fold}
use Rattle.jinterned.specs.ContextDigests.{digest_permission, digest_limits}
use Rattle.jinterned.proofs.digest.digest_limits.Given as goal

abbrev pub invariant-loop-p : goal.invariant-loop-p
invariant-loop-p l = fold digest_permission l.sum (drop l.p-index l.p-items) ≡ digest_limits l.limits
