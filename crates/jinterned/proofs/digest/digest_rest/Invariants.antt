use Rattle.std.proofs.Common.{◌≡◌, drop, fold}
use Rattle.jinterned.specs.ContextDigests.{with_one}
use Rattle.jinterned.proofs.digest.digest_rest.Given as goal

abbrev pub invariant-loop-p : goal.invariant-loop-p
invariant-loop-p l = fold with_one l.sum (drop l.p-index l.pairs) ≡ fold with_one l.start l.pairs
