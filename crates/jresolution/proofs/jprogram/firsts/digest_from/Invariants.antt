use Rattle.std.proofs.Common.{◌≡◌, drop}
use Rattle.jresolution.specs.jprogram.MemberDigests.{digest_from}
use Rattle.jresolution.proofs.jprogram.firsts.digest_from.Given as goal

abbrev pub invariant-loop-b : goal.invariant-loop-b
invariant-loop-b l = digest_from l.sum (drop l.b-index l.text) ≡ digest_from l.front l.text
