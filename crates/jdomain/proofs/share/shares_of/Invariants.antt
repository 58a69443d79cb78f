use Rattle.std.proofs.Common.{◌≡◌, ◌++◌, drop, map}
use Rattle.jdomain.specs.GrantShares.{share_of}
use Rattle.jdomain.proofs.share.shares_of.Given as goal

abbrev pub invariant-loop-grant : goal.invariant-loop-grant
invariant-loop-grant l = l.shares ++ map (share_of l.cwd) (drop l.grant-index l.policy) ≡ map (share_of l.cwd) l.policy
