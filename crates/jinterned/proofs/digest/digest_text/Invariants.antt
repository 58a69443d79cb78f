use Rattle.std.proofs.Common.{◌≡◌, drop, fold}
use Rattle.jinterned.specs.ContextDigests.{stirred, digest_text}
use Rattle.jinterned.proofs.digest.digest_text.Given as goal

abbrev pub invariant-loop-unit : goal.invariant-loop-unit
invariant-loop-unit l = fold stirred l.sum (drop l.unit-index l.text) ≡ digest_text l.start l.text
