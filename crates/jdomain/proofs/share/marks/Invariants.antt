use Rattle.std.proofs.Common.{◌≡◌, take}
use Rattle.jdomain.specs.GrantShares.{marks}
use Rattle.jdomain.proofs.share.marks.Given as goal

abbrev pub invariant-loop-share : goal.invariant-loop-share
invariant-loop-share l = l.marks.items ≡ marks (take l.share-index l.shares) l.source
