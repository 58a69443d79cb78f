use Rattle.std.proofs.Common.{◌≡◌, take}
use Rattle.jinterned.proofs.limits.copied.Given as goal

abbrev pub invariant-loop-p : goal.invariant-loop-p
invariant-loop-p l = l.made.items ≡ take l.p-index l.limits
