use Rattle.std.proofs.Common.{◌≡◌, take}
use Rattle.jmoveclass.proofs.method.ops_again.Given as goal

abbrev pub invariant-loop-one : goal.invariant-loop-one
invariant-loop-one l = l.same ≡ take l.one-index l.ops
