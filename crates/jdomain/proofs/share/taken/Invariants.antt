use Rattle.std.proofs.Common.{◌≡◌, ◌++◌, drop}
use Rattle.jdomain.specs.GrantShares.{taken}
use Rattle.jdomain.proofs.share.taken.Given as goal

abbrev pub invariant-loop-share : goal.invariant-loop-share
invariant-loop-share l = l.permissions ++ taken (drop l.share-index l.shares) l.source ≡ taken l.shares l.source
