use Rattle.std.proofs.Common.{◌≡◌, ◌++◌, drop}
use Rattle.jdomain.proofs.share.add_copies.Given as goal

abbrev pub invariant-loop-permission : goal.invariant-loop-permission
invariant-loop-permission l = l.permissions ++ drop l.permission-index l.more ≡ l.fn.permissions ++ l.more
